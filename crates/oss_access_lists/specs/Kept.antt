-- What contracts see of the accesses to one cell.
-- Read against: a new line has main alone, with no links; it may read and write from the start, and nothing waits, so the head is 0. Where
-- each table has room for four rows, three accesses can be opened, one after the other, without more memory.
use Rattle.std.specs.Prelude.{ℕ, ◌<◌, List, length}
use Rattle.oss_access_lists.specs.declared.marks.Marks.{Marks}
use Rattle.oss_access_lists.specs.declared.hang.Hang.{Hang}

-- How many rows fit into each table.
pub record Rooms : Type 0 where
  pub hangs : ℕ
  pub stand : ℕ
  pub posted : ℕ
  pub behind : ℕ

-- A row for each access, main's first.
pub record Kept : Type 0 where
  -- how it hangs, its mode, and whether it is given up
  pub hangs : List Hang
  -- the flags that stand
  pub stand : List Marks
  -- the flags that wait
  pub posted : List Marks
  -- the next one at which flags wait, 0 behind the last of these
  pub behind : List ℕ
  -- the first at which flags wait, 0 where none do
  pub head : ℕ
  -- for how many accesses there is memory
  pub rooms : Rooms

-- One more access can be opened with the memory that is there.
pub record HasRoom (k : Kept) : Type 0 where
  pub hangs : length k.hangs < k.rooms.hangs
  pub stand : length k.stand < k.rooms.stand
  pub posted : length k.posted < k.rooms.posted
  pub behind : length k.behind < k.rooms.behind
