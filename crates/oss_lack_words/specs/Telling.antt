-- How what is lacking is told, word by word.
-- Read against: with `in` of a[0] told and `out` to come, a list gets one clause more if a cell has to have `out`, and stays if none has.
use Rattle.std.specs.Prelude.{◌≡◌, ℕ, Bool, List, [], ◌∷◌, ◌++◌, Option}
use Rattle.oss_syntax.specs.declared.access.Access.{Access}
use Rattle.oss_syntax.specs.declared.tree.program.Item.{Item}
use Rattle.oss_explanation.specs.declared.explained.Held.{Held}
use Rattle.oss_explanation.specs.declared.explained.Word.{Word}
use Rattle.oss_explanation.specs.Held.{AreHeld, is_word}
use Rattle.oss_needs.specs.declared.lack.Lack.{Lack}
use Rattle.oss_missing_lines.specs.declared.missing.Wanting.{Wanting}
use Rattle.oss_pieces.specs.Layouts.{grids_from}
use Rattle.oss_pieces.specs.Rows.{Grid}
use Rattle.oss_lack_words.specs.declared.cells.Place.{Place}
use Rattle.oss_lack_words.specs.declared.cells.Place.TheVariants as places
use Rattle.oss_lack_words.specs.Told.{AreWantingOf, added, replacing}

-- the word of the clause that is missing at this place
abbrev pub told : Place → Option Lack → Option Word
told places.Beside lack = added lack
told places.InTheirs lack = replacing lack

-- A list of clauses with one word more, over globals that lie so.
abbrev pub AddsHeld : List Grid → (ℕ → Option Word) → Word → List Held → List Held → Type 0
AddsHeld grids words w old new = (all : List Item) → grids ≡ grids_from all 0 → (ws : List Word) → AreHeld all words ws old → AreHeld all words (ws ++ w ∷ []) new

-- The same of clauses that stand in place of others.
abbrev pub AddsWanting : List Grid → (ℕ → Option Word) → Bool → List Access → Word → List Wanting → List Wanting → Type 0
AddsWanting grids words final clauses w old new =
    (all : List Item) → grids ≡ grids_from all 0 → (ws : List Word) → AreWantingOf all words final clauses ws old → AreWantingOf all words final clauses (ws ++ w ∷ []) new

-- The same where these cells have the word.
abbrev pub AddsWantingOf : List Grid → (ℕ → Bool) → Bool → List Access → Word → List Wanting → List Wanting → Type 0
AddsWantingOf grids test final clauses w old new =
    (words : ℕ → Option Word) → ((c : ℕ) → test c ≡ is_word (words c) w) → AddsWanting grids words final clauses w old new
