-- What the walks along the lists of a cell find.
-- Read against: the accesses 1 to 5 of `Wires` in oss_access_lists, of which 3 is not over, and 4 and 5 are: 3 is found in main's list, though 5 is
-- its last.
use Rattle.std.specs.Prelude.{◌≡◌, ℕ, ◌<◌, false, List, length}
use Rattle.oss_syntax.specs.declared.access.Mode.{Mode}
use Rattle.oss_access_lists.specs.declared.hang.Hang.{Hang}
use Rattle.oss_access_lists.specs.declared.marks.Marks.{Marks}
use Rattle.oss_access_lists.specs.Wires.{Wires}
use Rattle.oss_access_lists.specs.Flags.{is_over}
use Rattle.oss_access_lists.specs.Tables.{marks_at, wires_of}
use Rattle.oss_links.specs.Search.{IsStopped, IsUndoneUpTo}

-- The access u of the list of p is not done: the search for one ends there.
pub record IsUndoneIn (w : Wires) (F : ℕ → Marks) (p u : ℕ) : Type 0 where
  pub comes : IsUndoneUpTo w F p u
  pub undone : is_over (F u) ≡ false

-- A walk back from an access that waits in this mode has come to one of the table.
pub record IsWalking (hangs : List Hang) (stand : List Marks) (m : Mode) (at here : ℕ) : Type 0 where
  pub stopped : IsStopped (wires_of hangs) (marks_at stand) m at here
  pub within : here < length hangs

-- A walk back from the last access of the list of p has.
pub record IsWalkingIn (hangs : List Hang) (stand : List Marks) (p here : ℕ) : Type 0 where
  pub undone : IsUndoneUpTo (wires_of hangs) (marks_at stand) p here
  pub within : here < length hangs
