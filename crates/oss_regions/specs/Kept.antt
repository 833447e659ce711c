-- What a system by ranges keeps, and what of it is seen.
-- Read against: task 10 with inout(a[0;4]), and its child 20 with out(a[0;2]), opened as 1 and 2, where a[0] to a[3] are the cells 0 to 3. The
-- table of the cells 0 and 1 has the numbers 0, 1, 2, that of 2 and 3 has 0, 1, and that of each other cell 0 alone. Once the row 2 of the
-- first is given up, task 20 has given up the cells 0 and 1; the cuts are 0, 2 and 4. Once task 10 has given up all four and a cut is made at 1, the
-- tables of the cells 0 and 1 have the number 0 alone: 10 and 20 have given up these cells, though no row says so.
use Rattle.std.specs.Prelude.{◌≡◌, ℕ, ◌<◌, ◌≤◌, Bool, true, List, Option, Some, length}
use Rattle.oss_syntax.specs.declared.access.Access.{Access}
use Rattle.oss_syntax.specs.declared.access.Mode.{Mode}
use Rattle.oss_deps.specs.declared.opened.Open.{Open}
use Rattle.oss_deps.specs.Columns.{IsNumber}
use Rattle.oss_deps.specs.Opens.{AreOpens, Asks, opened_forest}
use Rattle.oss_deps.specs.Seen.{Seen}
use Rattle.oss_fragments.specs.Kept.{Kept as Cells, here_at, is_cut}
use Rattle.oss_fragments.specs.Stretches.{AreReady}
use Rattle.oss_retire.specs.Tables.{IsCellLeft, given_left}
use Rattle.oss_regions.specs.Asked.{IsSatisfied}

-- What contracts see of it.
pub record Kept : Type 0 where
  -- the tasks that were opened, the oldest first
  pub opens : List Open
  -- the accesses to each cell
  pub cells : Cells
  pub reserved : Option (List Access)

-- The task has given up the cell, by the table of the cell.
abbrev pub given_at : List Open → Cells → ℕ → ℕ → Bool
given_at opens cells t c = given_left opens c (here_at cells c).hangs (here_at cells c).tasks t

abbrev pub seen_of : Kept → Seen
seen_of kept = record {
  opens = kept.opens;
  given = given_at kept.opens kept.cells;
  cut = is_cut kept.cells;
  reserved = kept.reserved;
}

-- The table of each cell holds what is left of what was opened with it, and the reserved accesses may be opened without memory.
pub record AreRight (opens : List Open) (capacity : ℕ) (cells : Cells) (reserved : Option (List Access)) : Type 0 where
  pub opens_are : AreOpens opens
  pub held : (c : ℕ) → IsCellLeft opens c (here_at cells c).hangs (here_at cells c).tasks
  pub ready : (accesses : List Access) → reserved ≡ Some accesses → AreReady accesses cells.fragments
  pub room : (accesses : List Access) → reserved ≡ Some accesses → length opens < capacity

-- What the task waits for in this mode has come at each cell of a range.
abbrev pub AreSatisfied : Kept → Mode → Open → ℕ → ℕ → Type 0
AreSatisfied kept mode o lo hi = (c : ℕ) → lo ≤ c → c < hi → IsSatisfied (opened_forest kept.opens (given_at kept.opens kept.cells) c) mode o.task

-- The same at those cells of the range that lie before another.
abbrev pub AreSatisfiedTo : Kept → Mode → Open → ℕ → ℕ → ℕ → Type 0
AreSatisfiedTo kept mode o lo hi cell = (c : ℕ) → lo ≤ c → c < hi → c < cell → IsSatisfied (opened_forest kept.opens (given_at kept.opens kept.cells) c) mode o.task

-- The task of the number waits in this mode at each cell of a range.
pub record AsksOver (opens : List Open) (n : ℕ) (mode : Mode) (lo hi : ℕ) : Type 0 where
  pub entry : Open
  pub is : IsNumber opens n entry
  pub asks : (c : ℕ) → lo ≤ c → c < hi → Asks opens entry.task c mode

-- What an access of the task waits for has come: a weak one waits for nothing.
abbrev pub IsAccessMet : Kept → Open → Access → Type 0
IsAccessMet kept o a = a.strong ≡ true → AreSatisfied kept a.mode o a.range.lo a.range.hi
