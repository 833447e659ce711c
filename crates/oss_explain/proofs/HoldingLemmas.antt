-- What a task has, by the accesses with which it started.
use Rattle.std.proofs.Common.{◌≡◌, ℕ, ◌<◌, refl, subst, ap, ◌∙◌, List, [], ◌∷◌, ◌++◌, arith, Bool, true, false, Option}
use Rattle.std.specs.Prelude.{◌&&◌, ◌||◌, nat_le, nat_lt, if◌then◌else◌, Err, IfOk, Ok, Result}
use Rattle.std.proofs.lemmas.Bool.Decides.{nat_tests}
use Rattle.oss_syntax.specs.declared.access.Access.{Access}
use Rattle.oss_syntax.specs.declared.access.Mode.{Mode}
use Rattle.oss_syntax.specs.declared.access.Mode.TheVariants.{Fold, Read, Write}
use Rattle.oss_syntax.specs.declared.tree.program.Item.{Item}
use Rattle.oss_judge.specs.Joined.{IsRising}
use Rattle.oss_model.specs.Context.{in_clauses}
use Rattle.oss_model.specs.Rights.{Holds, NoRight, Right, first_mark, in_access, is_fresh, joined_right, right_from}
use Rattle.oss_pieces.specs.Pieces.{ArePieces}
use Rattle.oss_explanation.specs.declared.explained.Held.{Held}
use Rattle.oss_explanation.specs.declared.explained.Use.{Use}
use Rattle.oss_explanation.specs.declared.explained.Word.{Word}
use Rattle.oss_explanation.specs.Held.{AreHeld, clause_word, is_word, mark_for, use_of, word_eq, word_of}
use Rattle.oss_explanation.specs.Held.AreHeld.{no_cell, none, some}
use Rattle.oss_explain.specs.Owned.{is_by, own_of}

-- functions that agree are one
pub ext : {A : Type 0} {f g : ℕ → A} → ((c : ℕ) → f c ≡ g c) → f ≡ g
ext h i c = h c i

or_false : (a b : Bool) → (a || b) ≡ false → b ≡ false
or_false true b h = absurd cc
or_false false b h = h

or_first : (a b : Bool) → (a || b) ≡ false → a ≡ false
or_first true b h = absurd cc
or_first false b h = refl

or_none : (a : Bool) → a ≡ ((true && a) || false)
or_none true = refl
or_none false = refl

-- what names no cell

no_right : (xs : List Access) (c : ℕ) → in_clauses xs c ≡ false → right_from false xs c ≡ NoRight
no_right [] c h = refl
no_right (a ∷ rest) c h = rw (or_first (in_access a c) (in_clauses rest c) h) (no_right rest c (or_false (in_access a c) (in_clauses rest c) h))

all_fresh : (xs : List Access) (c : ℕ) → in_clauses xs c ≡ false → is_fresh xs c ≡ true
all_fresh [] c h = refl
all_fresh (a ∷ rest) c h = rw (or_first (in_access a c) (in_clauses rest c) h) (all_fresh rest c (or_false (in_access a c) (in_clauses rest c) h))

by_none : (xs : List Access) (w : Word) (c : ℕ) → in_clauses xs c ≡ false → is_by xs w c ≡ false
by_none [] w c h = refl
by_none (a ∷ rest) w c h = rw (or_first (in_access a c) (in_clauses rest c) h) (by_none rest w c (or_false (in_access a c) (in_clauses rest c) h))

-- rising accesses

rising_rest : (a : Access) (rest : List Access) → IsRising (a ∷ rest) → IsRising rest
rising_rest a [] h = tt
rising_rest a (b ∷ rest) h = h.1

access_behind : (a : Access) (c : ℕ) → c < a.range.lo → in_access a c ≡ false
access_behind a c l = go (nat_le a.range.lo c) refl
  where
    go : (b : Bool) → nat_le a.range.lo c ≡ b → (b && nat_lt c a.range.hi) ≡ false
    go true e = grind (arith, nat_tests)
    go false e = refl

access_inside : (a : Access) (c : ℕ) → in_access a c ≡ true → c < a.range.hi
access_inside a c h = grind (arith, nat_tests)

past_none : (c : ℕ) (a : Access) (rest : List Access) → IsRising (a ∷ rest) → c < a.range.hi → in_clauses rest c ≡ false
past_none c a [] h l = refl
past_none c a (b ∷ rest) h l =
    let f = h.0.behind in
    let o = b.range.ordered in
    rw (access_behind b c (omega (arith, f, l))) (past_none c b rest h.1 (omega (arith, f, l, o)))

use_same : (m : Mode) (strong fresh : Bool) → use_of m (first_mark (Holds m strong) (fresh && true)) ≡ use_of m (mark_for fresh)
use_same Read strong fresh = refl
use_same Write strong true = refl
use_same Write strong false = refl
use_same (Fold o) strong fresh = refl

-- the word of a cell is that of the access that names it
pub own_is_by : (w : Word) (xs : List Access) → IsRising xs → (c : ℕ) → is_word (own_of xs c) w ≡ is_by xs w c
own_is_by w [] r c = refl
own_is_by w (a ∷ rest) r c = go (in_access a c) refl (own_is_by w rest (rising_rest a rest r) c)
  where
    here : (right : Right) (fresh by : Bool) → right ≡ NoRight → fresh ≡ true → by ≡ false
        → is_word (word_of (joined_right a.mode (false || a.strong) right) (first_mark (joined_right a.mode (false || a.strong) right) (a.fresh && fresh))) w ≡ ((true && word_eq (clause_word false a) w) || by)
    here right fresh by e f g =
        rw (e, f, g) (ap (λ (u : Use). word_eq (record { named = u; strong = a.strong }) w) (use_same a.mode a.strong a.fresh) ∙ or_none (word_eq (clause_word false a) w))

    go : (b : Bool) → in_access a c ≡ b → is_word (own_of rest c) w ≡ is_by rest w c
        → is_word (word_of (if b then joined_right a.mode (false || a.strong) (right_from false rest c) else right_from false rest c)
        (first_mark (if b then joined_right a.mode (false || a.strong) (right_from false rest c) else right_from false rest c) (if b then a.fresh && is_fresh rest c else is_fresh rest c))) w
        ≡ ((b && word_eq (clause_word false a) w) || is_by rest w c)
    go true e more =
        let n = past_none c a rest r (access_inside a c e) in
        here (right_from false rest c) (is_fresh rest c) (is_by rest w c) (no_right rest c n) (all_fresh rest c n) (by_none rest w c n)
    go false e more = more

-- one word more

pub held_some : (all : List Item) (words : ℕ → Option Word) {ws : List Word} {hs : List Held} (w : Word) (h : Held) → AreHeld all words ws hs → h.word ≡ w → ArePieces (λ c. is_word (words c) w) all 0 0 h.cells → (h.cells ≡ [] → ⊥)
    → AreHeld all words (ws ++ w ∷ []) (hs ++ h ∷ [])
held_some all words w h none e p n = some h e p n none
held_some all words w h (some g f q m rest) e p n = some g f q m (held_some all words w h rest e p n)
held_some all words w h (no_cell q rest) e p n = no_cell q (held_some all words w h rest e p n)

pub held_none : (all : List Item) (words : ℕ → Option Word) {ws : List Word} {hs : List Held} (w : Word) → AreHeld all words ws hs → ArePieces (λ c. is_word (words c) w) all 0 0 [] → AreHeld all words (ws ++ w ∷ []) hs
held_none all words w none p = no_cell p none
held_none all words w (some g f q m rest) p = some g f q m (held_none all words w rest p)
held_none all words w (no_cell q rest) p = no_cell q (held_none all words w rest p)

-- seven words, one after the other
pub seven : {A : Type 0} (xs : List A) (a b c d e f g : A) → ((((((xs ++ a ∷ []) ++ b ∷ []) ++ c ∷ []) ++ d ∷ []) ++ e ∷ []) ++ f ∷ []) ++ g ∷ [] ≡ xs ++ a ∷ b ∷ c ∷ d ∷ e ∷ f ∷ g ∷ []
seven [] a b c d e f g = refl
seven (x ∷ xs) a b c d e f g = ap (λ ys. x ∷ ys) (seven xs a b c d e f g)

pub seven_held : (all : List Item) (words : ℕ → Option Word) {hs : List Held} (ws : List Word) (a b c d e f g : Word) → AreHeld all words (((((((ws ++ a ∷ []) ++ b ∷ []) ++ c ∷ []) ++ d ∷ []) ++ e ∷ []) ++ f ∷ []) ++ g ∷ []) hs
    → AreHeld all words (ws ++ a ∷ b ∷ c ∷ d ∷ e ∷ f ∷ g ∷ []) hs
seven_held all words {hs = hs} ws a b c d e f g h = subst (λ (vs : List Word). AreHeld all words vs hs) (seven ws a b c d e f g) h

-- what holds of an answer that is Ok
pub if_ok_as : {A E : Type 0} {F G : A → Type 0} (r : Result A E) → ((x : A) → F x → G x) → IfOk r F → IfOk r G
if_ok_as (Ok x) f h = f x h
if_ok_as (Err e) f h = h
