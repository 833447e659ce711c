-- How what the clauses of a task lack is told: as clauses with the pieces of the cells that they name.
-- Read against: of a task without clauses that loads a[0] and a[2] and stores x, `in` with the pieces a[0] and a[2] is added, and `out` with x. Of `in(s) reduction(|: s) reduction(+: s) out(t)` in a task that does not use s, `weakin` with s stands in place of `in`,
-- `reduction(|)` and `reduction(+)`.
use Rattle.std.specs.Prelude.{◌≡◌, ℕ, ◌-◌, Bool, if◌then◌else◌, List, [], ◌∷◌, Option, Some, None}
use Rattle.oss_syntax.specs.declared.access.Access.{Access}
use Rattle.oss_syntax.specs.declared.tree.program.Item.{Item}
use Rattle.oss_model.specs.Rights.{any_from}
use Rattle.oss_pieces.specs.Pieces.{ArePieces}
use Rattle.oss_explanation.specs.declared.explained.Held.{Held}
use Rattle.oss_explanation.specs.declared.explained.Word.{Word}
use Rattle.oss_explanation.specs.Held.{AreHeld, all_words, clause_word, is_word, once}
use Rattle.oss_needs.specs.declared.lack.Lack.{Lack}
use Rattle.oss_needs.specs.declared.lack.Lack.TheVariants as lack
use Rattle.oss_missing_lines.specs.declared.missing.Wanting.{Wanting}
use Rattle.oss_missing_lines.specs.Words.{word_by}

-- the word of a clause that is missing beside what clauses say of a cell; of one that has to stand in their place
abbrev pub added : Option Lack → Option Word
added (Some (lack.Adds c)) = Some (word_by c)
added _ = None

abbrev pub replacing : Option Lack → Option Word
replacing (Some (lack.Replaces c)) = Some (word_by c)
replacing _ = None

-- the clauses that a task lacks, where of each cell this is lacking
abbrev pub AreLacking : List Item → (ℕ → Option Lack) → List Held → Type 0
AreLacking all lacks hs = AreHeld all (λ c. added (lacks c)) all_words hs

-- the words of the clauses that name a cell of a set, in text order
abbrev pub words_for : (ℕ → Bool) → Bool → List Access → List Word
words_for test final [] = []
words_for test final (a ∷ rest) = if any_from test a.range.lo (a.range.hi - a.range.lo) then clause_word final a ∷ words_for test final rest else words_for test final rest

-- The clause has this word, it names the cells that have to have it, of which there is one, and it stands in place of the clauses that name one of them.
pub record IsWanting (all : List Item) (words : ℕ → Option Word) (final : Bool) (clauses : List Access) (w : Word) (k : Wanting) : Type 0 where
  pub word : k.word ≡ w
  pub cells : ArePieces (λ c. is_word (words c) w) all 0 0 k.cells
  pub some : k.cells ≡ [] → ⊥
  pub old : k.old ≡ once [] (words_for (λ c. is_word (words c) w) final clauses)

-- The list has each of these words that some cell has to have, in this order.
pub data AreWantingOf (all : List Item) (words : ℕ → Option Word) (final : Bool) (clauses : List Access) : List Word → List Wanting → Type 0 where
  none : AreWantingOf all words final clauses [] []
  some : {w : Word} {ws : List Word} {k : Wanting} {ks : List Wanting} → IsWanting all words final clauses w k → AreWantingOf all words final clauses ws ks → AreWantingOf all words final clauses (w ∷ ws) (k ∷ ks)
  no_cell : {w : Word} {ws : List Word} {ks : List Wanting} → ArePieces (λ c. is_word (words c) w) all 0 0 [] → AreWantingOf all words final clauses ws ks → AreWantingOf all words final clauses (w ∷ ws) ks

-- the clauses that have to stand in place of others, of a task with these
abbrev pub AreWanting : List Item → (ℕ → Option Lack) → Bool → List Access → List Wanting → Type 0
AreWanting all lacks final clauses ks = AreWantingOf all (λ c. replacing (lacks c)) final clauses all_words ks
