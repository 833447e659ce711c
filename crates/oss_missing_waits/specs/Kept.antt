-- How an open task of the second walk is kept, and what an event makes of it.
-- Read against: a task at the path 1, 0 has lent x to its child 0 and has released y. Kept are the pieces by which x is lent, the set of y alone, the lines that were told of it, and the sets of those on which a wait or a use was. It releases x: of that it is not told, and x is in the set too.
use Rattle.std.specs.Prelude.{◌≡◌, ◌≤◌, ℕ, Bool, false, ◌||◌, ◌&&◌, List, Option}
use Rattle.std.specs.BTreeSet.{BTreeSet, contains}
use Rattle.std.specs.Ordering.{nat_cmp}
use Rattle.oss_syntax.specs.declared.access.Range.{Range}
use Rattle.oss_syntax.specs.declared.tree.program.Item.{Item}
use Rattle.oss_model.specs.Rights.{Folds, Reads, Touch, Writes}
use Rattle.oss_ranges.specs.Cells.{is_within}
use Rattle.oss_pieces.specs.CellSets.{SetOfCells, has}
use Rattle.oss_pieces.specs.Layouts.{grids_from}
use Rattle.oss_pieces.specs.Rows.{Grid}
use Rattle.oss_explanation.specs.declared.explained.Touching.{Touching}
use Rattle.oss_explanation.specs.declared.explained.Touching.TheVariants as touching
use Rattle.oss_needs.specs.declared.clause.Clause.{Clause}
use Rattle.oss_lent_cells.specs.Kept.{AreLent, in_ranges}
use Rattle.oss_lent_cells.specs.Lent.{waited_for}
use Rattle.oss_missing_waits.specs.declared.holding.HoldingTask.{HoldingTask}
use Rattle.oss_missing_waits.specs.Holding.{Holding, IsUse, has_use, has_wait, hinderer, waits_before, with_lent}
use Rattle.oss_missing_waits.specs.Lines.{AreLines}

-- whether a set of lines has this one
abbrev pub has_line : BTreeSet ℕ → ℕ → Bool
has_line lines line = contains nat_cmp lines line

-- A task is kept so.
pub record IsHolding (all : List Item) (h : Holding) (t : HoldingTask) : Type 0 where
  pub lent : AreLent h.lent t.lent
  pub released : (c : ℕ) → has t.released c ≡ h.released c
  -- a program has no cell from there on
  pub past : (c : ℕ) → 1048576 ≤ c → h.released c ≡ false
  pub told : AreLines all h.told t.told
  -- the lines of each kind that were told, for a search in a few steps
  pub waits : (line : ℕ) → has_line t.waits line ≡ has_wait h.told line
  pub uses : (line : ℕ) → has_line t.uses line ≡ has_use h.told line

-- What is known of the task has become this.
abbrev pub LeadsTo : (Holding → Holding) → HoldingTask → HoldingTask → Type 0
LeadsTo up old new = (all : List Item) (h : Holding) → IsHolding all h old → IsHolding all (up h) new

-- The same where it is told which of two things it has become, over globals that lie so.
abbrev pub Leads : List Grid → (Holding → Holding → Type 0) → HoldingTask → HoldingTask → Type 0
Leads layout Goes old new = (all : List Item) (h : Holding) → layout ≡ grids_from all 0 → IsHolding all h old → (g : Holding) × (Goes h g × IsHolding all g new)

-- The task uses cells, and then this becomes of it.
pub record IsUseThen (cells : ℕ → Bool) (line : ℕ) (up : Holding → Holding) (h g : Holding) : Type 0 where
  pub used : Holding
  pub use_is : IsUse cells line h used
  pub new_is : g ≡ up used

-- Of the cells that a task uses these are those that it has released.
abbrev pub AreReleased : (ℕ → Bool) → SetOfCells → SetOfCells → Type 0
AreReleased cells released used = (c : ℕ) → has used c ≡ (cells c && has released c)

-- No cell is in the set that a program does not have.
abbrev pub IsBounded : SetOfCells → Type 0
IsBounded s = (c : ℕ) → 1048576 ≤ c → has s c ≡ false

-- It is told which of these cells it uses behind a release.
abbrev pub IsToldUse : List Grid → SetOfCells → ℕ → HoldingTask → HoldingTask → Type 0
IsToldUse layout used line old new = (cells : ℕ → Bool) → AreReleased cells old.released used → Leads layout (IsUse cells line) old new

-- Those of a range are added.
abbrev pub IsAddedFrom : ℕ → ℕ → SetOfCells → SetOfCells → SetOfCells → Type 0
IsAddedFrom lo hi released old new = (c : ℕ) → has new c ≡ ((is_within lo hi c && has released c) || has old c)

-- how a touch is told, as a touch
abbrev pub touch_of : Touching → Touch
touch_of touching.Reading = Reads
touch_of touching.Writing = Writes
touch_of (touching.Folding op) = Folds op

-- The task touches a cell that it has by this.
abbrev pub touched_under : Option Clause → Touch → ℕ → ℕ → Holding → Holding
touched_under clause touch c line h = waits_before touch c line (hinderer clause touch (h.lent c)) h

-- It waits for the cells of these ranges.
abbrev pub waits_for : List Range → Holding → Holding
waits_for named h = with_lent (waited_for (in_ranges named) h.lent) h
