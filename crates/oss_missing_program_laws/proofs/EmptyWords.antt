-- No clause is told to be lacking exactly where of no cell of the program one is.
use Rattle.std.proofs.Common.{◌≡◌, ◌∙◌, ℕ, ◌<◌, ◌≤◌, ◌⊎◌, inl, inr, Bool, true, false, List, [], ◌∷◌, Option, Some, None, refl, sym, ap, arith}
use Rattle.std.specs.Prelude.{◌||◌, if◌then◌else◌}
use Rattle.std.proofs.lemmas.Bool.{or_from, true≢false}
use Rattle.std.proofs.lemmas.Bool.Decides.{nat_tests}
use Rattle.oss_syntax.specs.declared.access.Access.{Access}
use Rattle.oss_syntax.specs.declared.access.Mode.{Mode}
use Rattle.oss_syntax.specs.declared.access.Mode.TheVariants as mode
use Rattle.oss_syntax.specs.declared.access.Op.TheVariants as op
use Rattle.oss_syntax.specs.declared.tree.program.Item.{Item}
use Rattle.oss_ranges.specs.Cells.{is_within}
use Rattle.oss_explanation.specs.declared.explained.Held.{Held}
use Rattle.oss_explanation.specs.declared.explained.Word.{Word}
use Rattle.oss_explanation.specs.Held.{AreHeld, all_words, is_word}
use Rattle.oss_explanation.specs.Held.AreHeld.{no_cell, none, some}
use Rattle.oss_needs.specs.declared.clause.Clause.{Clause}
use Rattle.oss_needs.specs.declared.lack.Lack.{Lack}
use Rattle.oss_needs.specs.declared.lack.Lack.TheVariants as lack
use Rattle.oss_needs.specs.Givens.{given_of}
use Rattle.oss_needs.specs.Lacks.{lack_of}
use Rattle.oss_task_needs.specs.Mends.{kept_lack}
use Rattle.oss_missing_lines.specs.declared.missing.Wanting.{Wanting}
use Rattle.oss_missing_lines.specs.Words.{use_by, word_by}
use Rattle.oss_lacks.specs.Asking.{Asking}
use Rattle.oss_lack_words.specs.Told.{AreLacking, AreWanting, AreWantingOf, added, replacing}
use Rattle.oss_lack_words.specs.Told.AreWantingOf.{no_cell as no_place, none as no_wants, some as some_place}
use Rattle.oss_missing.specs.Missing.{lacks_of}
use Rattle.oss_missing_laws.specs.Programs.{LacksNothing}
use Rattle.oss_missing_program_laws.proofs.EmptyPieces.{cells_from, no_cell_of, no_piece_of}
use Rattle.oss_missing_program_laws.proofs.FewCells.{IsFew, if_none, lacks_past}

-- the word of a cell is one of these
abbrev has_word : Option Word → List Word → Bool
has_word o [] = false
has_word o (w ∷ ws) = is_word o w || has_word o ws

-- Each clause has a word.
word_of_mode : (m : Mode) (strong fresh : Bool) → has_word (Some (record { named = use_by m fresh; strong = strong })) all_words ≡ true
word_of_mode mode.Read true true = refl
word_of_mode mode.Read true false = refl
word_of_mode mode.Read false true = refl
word_of_mode mode.Read false false = refl
word_of_mode mode.Write true true = refl
word_of_mode mode.Write true false = refl
word_of_mode mode.Write false true = refl
word_of_mode mode.Write false false = refl
word_of_mode (mode.Fold op.Add) true true = refl
word_of_mode (mode.Fold op.Add) true false = refl
word_of_mode (mode.Fold op.Add) false true = refl
word_of_mode (mode.Fold op.Add) false false = refl
word_of_mode (mode.Fold op.And) true true = refl
word_of_mode (mode.Fold op.And) true false = refl
word_of_mode (mode.Fold op.And) false true = refl
word_of_mode (mode.Fold op.And) false false = refl
word_of_mode (mode.Fold op.Or) true true = refl
word_of_mode (mode.Fold op.Or) true false = refl
word_of_mode (mode.Fold op.Or) false true = refl
word_of_mode (mode.Fold op.Or) false false = refl
word_of_mode (mode.Fold op.Xor) true true = refl
word_of_mode (mode.Fold op.Xor) true false = refl
word_of_mode (mode.Fold op.Xor) false true = refl
word_of_mode (mode.Fold op.Xor) false false = refl

has_its_word : (c : Clause) → has_word (Some (word_by c)) all_words ≡ true
has_its_word c = word_of_mode c.mode c.strong c.fresh

module _ (all : List Item) where
  -- Where no clause is told, no cell of the program has a word.
  held_no_word : (words : ℕ → Option Word) {ws : List Word} → AreHeld all words ws [] → (c : ℕ) → c < cells_from all → has_word (words c) ws ≡ false
  held_no_word words none c l = refl
  held_no_word words (no_cell {w = w} {ws = ws} p h) c l =
      or_from (is_word (words c) w) (has_word (words c) ws) (no_cell_of (λ d. is_word (words d) w) all 0 0 [] refl p c (omega arith) (omega (arith, l))) (held_no_word words h c l)

  wanted_no_word : (words : ℕ → Option Word) (final : Bool) (clauses : List Access) {ws : List Word} → AreWantingOf all words final clauses ws [] → (c : ℕ) → c < cells_from all → has_word (words c) ws ≡ false
  wanted_no_word words final clauses no_wants c l = refl
  wanted_no_word words final clauses (no_place {w = w} {ws = ws} p h) c l =
      or_from (is_word (words c) w) (has_word (words c) ws) (no_cell_of (λ d. is_word (words d) w) all 0 0 [] refl p c (omega arith) (omega (arith, l))) (wanted_no_word words final clauses h c l)

  -- So none is lacking.
  pub nothing_lacking : (lacks : ℕ → Option Lack) (final : Bool) (clauses : List Access) → AreLacking all lacks [] → AreWanting all lacks final clauses []
      → ((c : ℕ) → lacks c ≡ Some lack.Nothing → ⊥) → (c : ℕ) → c < cells_from all → lacks c ≡ None
  nothing_lacking lacks final clauses h w kept c l = go (lacks c) refl
    where
      go : (o : Option Lack) → lacks c ≡ o → lacks c ≡ None
      go None e = e
      go (Some lack.Nothing) e = absurd (kept c e)
      go (Some (lack.Adds k)) e =
          let f : has_word (added (lacks c)) all_words ≡ false = held_no_word (λ d. added (lacks d)) h c l in
          absurd (true≢false (sym (has_its_word k) ∙ ap (λ (o : Option Lack). has_word (added o) all_words) (sym e) ∙ f))
      go (Some (lack.Replaces k)) e =
          let f : has_word (replacing (lacks c)) all_words ≡ false = wanted_no_word (λ d. replacing (lacks d)) final clauses w c l in
          absurd (true≢false (sym (has_its_word k) ∙ ap (λ (o : Option Lack). has_word (replacing o) all_words) (sym e) ∙ f))

  -- Where no cell has a word, no clause is told.
  no_such : (o : Option Word) (w : Word) → o ≡ None → is_word o w ≡ false
  no_such o w e = ap (λ (x : Option Word). is_word x w) e

  held_empty : (words : ℕ → Option Word) → ((c : ℕ) → words c ≡ None) → {ws : List Word} {hs : List Held} → AreHeld all words ws hs → hs ≡ []
  held_empty words e none = refl
  held_empty words e (some {w = w} h i p k rest) = absurd (k (no_piece_of (λ d. is_word (words d) w) all 0 0 h.cells (λ c. no_such (words c) w (e c)) p))
  held_empty words e (no_cell p h) = held_empty words e h

  wanted_empty : (words : ℕ → Option Word) (final : Bool) (clauses : List Access) → ((c : ℕ) → words c ≡ None) → {ws : List Word} {ks : List Wanting} → AreWantingOf all words final clauses ws ks → ks ≡ []
  wanted_empty words final clauses e no_wants = refl
  wanted_empty words final clauses e (some_place {w = w} {k = k} i rest) = absurd (i.some (no_piece_of (λ d. is_word (words d) w) all 0 0 k.cells (λ c. no_such (words c) w (e c)) i.cells))
  wanted_empty words final clauses e (no_place p h) = wanted_empty words final clauses e h

  pub lacks_empty : (lacks : ℕ → Option Lack) → ((c : ℕ) → lacks c ≡ None) → {hs : List Held} → AreLacking all lacks hs → hs ≡ []
  lacks_empty lacks e h = held_empty (λ c. added (lacks c)) (λ c. ap added (e c)) h

  pub wants_empty : (lacks : ℕ → Option Lack) (final : Bool) (clauses : List Access) → ((c : ℕ) → lacks c ≡ None) → {ks : List Wanting} → AreWanting all lacks final clauses ks → ks ≡ []
  wants_empty lacks final clauses e h = wanted_empty (λ c. replacing (lacks c)) final clauses (λ c. ap replacing (e c)) h

-- What is kept of a lack

kept_is_some : (l : Lack) → kept_lack l ≡ Some lack.Nothing → ⊥
kept_is_some lack.Nothing e = absurd cc
kept_is_some (lack.Adds c) e = absurd cc
kept_is_some (lack.Replaces c) e = absurd cc

if_kept_is_some : (b : Bool) (l : Lack) → (if b then kept_lack l else None) ≡ Some lack.Nothing → ⊥
if_kept_is_some true l e = kept_is_some l e
if_kept_is_some false l e = absurd cc

pub lacks_kept : (t : Asking) (c : ℕ) → lacks_of t c ≡ Some lack.Nothing → ⊥
lacks_kept t c e = if_kept_is_some (is_within 0 1048576 c) (lack_of (given_of t.final t.clauses c) (t.asked c)) e

nothing_kept : (l : Lack) → kept_lack l ≡ None → l ≡ lack.Nothing
nothing_kept lack.Nothing e = refl
nothing_kept (lack.Adds c) e = absurd cc
nothing_kept (lack.Replaces c) e = absurd cc

less_or : (a b : ℕ) → (a < b) ⊎ (b ≤ a)
less_or a b = grind arith

-- No clause of a task is told to be lacking exactly if its clauses lack nothing.
module _ (all : List Item) (n : ℕ) (few : n ≤ 1048576) (cells : n ≤ cells_from all) (t : Asking) (small : IsFew n t) where
  pub lacks_nothing : AreLacking all (lacks_of t) [] → AreWanting all (lacks_of t) t.final t.clauses [] → LacksNothing t
  lacks_nothing h w c l = by (less_or c n)
    where
      inside : is_within 0 1048576 c ≡ true
      inside = grind (arith, nat_tests, l)

      by : (c < n) ⊎ (n ≤ c) → lack_of (given_of t.final t.clauses c) (t.asked c) ≡ lack.Nothing
      by (inr k) = lacks_past n t c small k
      by (inl k) =
          nothing_kept (lack_of (given_of t.final t.clauses c) (t.asked c))
          (sym (ap (λ (b : Bool). if b then kept_lack (lack_of (given_of t.final t.clauses c) (t.asked c)) else None) inside)
          ∙ nothing_lacking all (lacks_of t) t.final t.clauses h w (lacks_kept t) c (omega (arith, k, cells)))

pub lacks_none : (t : Asking) → LacksNothing t → (c : ℕ) → lacks_of t c ≡ None
lacks_none t h c = go (is_within 0 1048576 c) refl
  where
    go : (b : Bool) → is_within 0 1048576 c ≡ b → lacks_of t c ≡ None
    go true e =
        let l : c < 1048576 = grind (arith, nat_tests, e) in
        ap (λ (x : Lack). if is_within 0 1048576 c then kept_lack x else None) (h c l) ∙ if_none (is_within 0 1048576 c)
    go false e = ap (λ (b : Bool). if b then kept_lack (lack_of (given_of t.final t.clauses c) (t.asked c)) else None) e
