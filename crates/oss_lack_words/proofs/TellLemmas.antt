-- Lists of clauses, word by word.
use Rattle.std.proofs.Common.{◌≡◌, ◌≤◌, ◌<◌, ℕ, zero, suc, ◌+◌, refl, sym, ap, ◌∙◌, List, [], ◌∷◌, ◌++◌, length, take, drop, arith, Bool, false, true≢false, inl, inr, Option, None}
use Rattle.std.specs.Prelude.{Err, IfOk, Ok, Result}
use Rattle.std.proofs.lemmas.Bool.{cases_lt}
use Rattle.oss_syntax.specs.declared.access.Access.{Access}
use Rattle.oss_syntax.specs.declared.tree.program.Item.{Item}
use Rattle.oss_syntax.specs.declared.tree.program.Item.TheVariants as items
use Rattle.oss_grammar.specs.Layout.{cells_of}
use Rattle.oss_pieces.specs.declared.piece.Piece.{Piece}
use Rattle.oss_pieces.specs.Pieces.{ArePieces, ArePiecesTo, IsPiece}
use Rattle.oss_pieces.specs.Pieces.ArePieces.{none as no_items, of_function, of_global}
use Rattle.oss_pieces.specs.Pieces.Rise.{none as no_piece}
use Rattle.oss_pieces.specs.Rows.{Grid, grid_of}
use Rattle.oss_explanation.specs.declared.explained.Held.{Held}
use Rattle.oss_explanation.specs.declared.explained.Word.{Word}
use Rattle.oss_explanation.specs.Held.{AreHeld, is_word}
use Rattle.oss_explanation.specs.Held.AreHeld.{no_cell, none, some}
use Rattle.oss_missing_lines.specs.declared.missing.Wanting.{Wanting}
use Rattle.oss_lack_words.specs.Told.{AreWantingOf, IsWanting}
use Rattle.oss_lack_words.specs.Told.AreWantingOf.{no_cell as no_place, none as no_wants, some as some_place}

-- functions that agree are one
pub ext : {A : Type 0} {f g : ℕ → A} → ((c : ℕ) → f c ≡ g c) → f ≡ g
ext h i c = h c i

-- what holds of an answer that is Ok
pub if_ok_as : {A E : Type 0} {F G : A → Type 0} (r : Result A E) → ((x : A) → F x → G x) → IfOk r F → IfOk r G
if_ok_as (Ok x) f h = f x h
if_ok_as (Err e) f h = h

pub all_dropped : {A : Type 0} (xs : List A) (n : ℕ) → length xs ≤ n → drop n xs ≡ []
all_dropped [] zero l = refl
all_dropped [] (suc n) l = refl
all_dropped (y ∷ xs) zero l = absurd (omega (arith, l))
all_dropped (y ∷ xs) (suc n) l = all_dropped xs n (omega (arith, l))

pub take_whole : {A : Type 0} (xs : List A) (n : ℕ) → length xs ≤ n → take n xs ≡ xs
take_whole [] zero l = refl
take_whole [] (suc n) l = refl
take_whole (y ∷ xs) zero l = absurd (omega (arith, l))
take_whole (y ∷ xs) (suc n) l = ap (λ ys. y ∷ ys) (take_whole xs n (omega (arith, l)))

-- A run whose cells fail the test leaves a set as it is.
pub run_without : (test had : ℕ → Bool) (from to : ℕ) → ((c : ℕ) → c < from → had c ≡ test c) → ((c : ℕ) → from ≤ c → had c ≡ false) → ((c : ℕ) → from ≤ c → c < to → test c ≡ false) → (c : ℕ) → c < to → had c ≡ test c
run_without test had from to before behind fails c l = elim (cases_lt c from) [
  | inl h ↦ before c h
  | inr h ↦ behind c h ∙ sym (fails c h l)
]

-- A set without cells has no pieces.

not_a_piece : (s : Grid) (number : ℕ) (test : ℕ → Bool) (p : Piece) → ((c : ℕ) → test c ≡ false) → IsPiece s number test p → ⊥
not_a_piece s number test p h is =
    let run = (is.each p.rows.first (omega arith) is.ordered).run in
    true≢false (sym (run.all _ (omega arith) run.some) ∙ h _)

no_own : (s : Grid) (number : ℕ) (test : ℕ → Bool) (to : ℕ) → ((c : ℕ) → test c ≡ false) → ArePiecesTo s number test to []
no_own s number test to h = record {
  rise = no_piece;
  each = λ p i. elim i [ ];
  every = λ p is l. absurd (not_a_piece s number test p h is);
}

pub no_pieces : (test : ℕ → Bool) (all : List Item) (number start : ℕ) → ((c : ℕ) → test c ≡ false) → ArePieces test all number start []
no_pieces test [] number start h = no_items
no_pieces test (items.Global g ∷ rest) number start h =
    of_global (no_own (grid_of g start) number test (start + cells_of g.cells) h) (no_pieces test rest (number + 1) (start + cells_of g.cells) h)
no_pieces test (items.Function f ∷ rest) number start h = of_function (no_pieces test rest number start h)

-- where no cell has a word

pub nothing_held : (all : List Item) (words : ℕ → Option Word) (ws : List Word) → ((c : ℕ) → words c ≡ None) → AreHeld all words ws []
nothing_held all words [] h = none
nothing_held all words (w ∷ ws) h = no_cell (no_pieces (λ c. is_word (words c) w) all 0 0 (λ c. ap (λ v. is_word v w) (h c))) (nothing_held all words ws h)

pub nothing_wanted : (all : List Item) (words : ℕ → Option Word) (final : Bool) (clauses : List Access) (ws : List Word) → ((c : ℕ) → words c ≡ None) → AreWantingOf all words final clauses ws []
nothing_wanted all words final clauses [] h = no_wants
nothing_wanted all words final clauses (w ∷ ws) h =
    no_place (no_pieces (λ c. is_word (words c) w) all 0 0 (λ c. ap (λ v. is_word v w) (h c))) (nothing_wanted all words final clauses ws h)

-- one word more

pub held_some : (all : List Item) (words : ℕ → Option Word) {ws : List Word} {hs : List Held} (w : Word) (h : Held) → AreHeld all words ws hs → h.word ≡ w → ArePieces (λ c. is_word (words c) w) all 0 0 h.cells → (h.cells ≡ [] → ⊥)
    → AreHeld all words (ws ++ w ∷ []) (hs ++ h ∷ [])
held_some all words w h none e p n = some h e p n none
held_some all words w h (some g f q m rest) e p n = some g f q m (held_some all words w h rest e p n)
held_some all words w h (no_cell q rest) e p n = no_cell q (held_some all words w h rest e p n)

pub held_none : (all : List Item) (words : ℕ → Option Word) {ws : List Word} {hs : List Held} (w : Word) → AreHeld all words ws hs → ArePieces (λ c. is_word (words c) w) all 0 0 [] → AreHeld all words (ws ++ w ∷ []) hs
held_none all words w none p = no_cell p none
held_none all words w (some g f q m rest) p = some g f q m (held_none all words w rest p)
held_none all words w (no_cell q rest) p = no_cell q (held_none all words w rest p)

pub wanting_some : (all : List Item) (words : ℕ → Option Word) (final : Bool) (clauses : List Access) {ws : List Word} {ks : List Wanting} (w : Word) (k : Wanting) → AreWantingOf all words final clauses ws ks → IsWanting all words final clauses w k
    → AreWantingOf all words final clauses (ws ++ w ∷ []) (ks ++ k ∷ [])
wanting_some all words final clauses w k no_wants h = some_place h no_wants
wanting_some all words final clauses w k (some_place g rest) h = some_place g (wanting_some all words final clauses w k rest h)
wanting_some all words final clauses w k (no_place q rest) h = no_place q (wanting_some all words final clauses w k rest h)

pub wanting_none : (all : List Item) (words : ℕ → Option Word) (final : Bool) (clauses : List Access) {ws : List Word} {ks : List Wanting} (w : Word) → AreWantingOf all words final clauses ws ks → ArePieces (λ c. is_word (words c) w) all 0 0 []
    → AreWantingOf all words final clauses (ws ++ w ∷ []) ks
wanting_none all words final clauses w no_wants p = no_place p no_wants
wanting_none all words final clauses w (some_place g rest) p = some_place g (wanting_none all words final clauses w rest p)
wanting_none all words final clauses w (no_place q rest) p = no_place q (wanting_none all words final clauses w rest p)
