-- The longest runs of the cells that are declared and were not touched, those before one cell so far.
-- Read against: of the declared cells 0 to 9, 0 and 5 of which were touched, the runs before cell 6 are the one from 1 up to 5; those before all cells are that one and the one from 6 up to 10.
use Rattle.std.specs.Prelude.{◌≡◌, ◌≤◌, ◌<◌, ℕ, true, List, [], ◌∷◌, ◌++◌}
use Rattle.oss_model.specs.Order.{IsIn}
use Rattle.oss_audit.specs.declared.unused.Unused.{Unused}
use Rattle.oss_pieces.specs.CellSets.{SetOfCells, is_left}
use Rattle.oss_audit.specs.Unused.{Rises}

-- The item has this point and the cells from one up to another.
pub record IsRun (point : List ℕ) (lo hi : ℕ) (u : Unused) : Type 0 where
  pub point_is : u.point ≡ point
  pub lo_is : u.range.lo ≡ lo
  pub hi_is : u.range.hi ≡ hi

-- The run from one cell up to another stands behind the list, if it has a cell.
pub record AddsRun (point : List ℕ) (lo hi : ℕ) (old new : List Unused) : Type 0 where
  pub none : hi ≤ lo → new ≡ old
  pub some : lo < hi → (u : Unused) × (new ≡ old ++ u ∷ []) × IsRun point lo hi u

-- A run of the list has the cell.
pub record Covers (us : List Unused) (c : ℕ) : Type 0 where
  pub item : Unused
  pub listed : IsIn item us
  pub from : item.range.lo ≤ c
  pub to : c < item.range.hi

-- The list has the runs of the cells before this one that are left, each with this point; the last ends before the cell, or the cell is that behind all.
pub record HasRuns (point : List ℕ) (declared touched : SetOfCells) (end : ℕ) (us : List Unused) : Type 0 where
  pub rises : Rises us
  pub points : (u : Unused) → IsIn u us → u.point ≡ point
  pub only : (c : ℕ) → Covers us c → is_left declared touched c ≡ true
  pub all : (c : ℕ) → c < end → is_left declared touched c ≡ true → Covers us c

-- The same, where no run ends at the cell, so that another may begin there.
pub record HasRunsBefore (point : List ℕ) (declared touched : SetOfCells) (start : ℕ) (us : List Unused) : Type 0 where
  pub runs : HasRuns point declared touched start us
  pub before : (u : Unused) → IsIn u us → u.range.hi < start
