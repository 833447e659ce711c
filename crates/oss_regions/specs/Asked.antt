-- What is asked of the table of a cell, by numbers of opens.
-- Read against: the tasks of `Held` in oss_links, opened as 1 to 6, before anything is given up. The read of task 6 has not its flag, and the
-- number in its way is 5, since 4 and 5 are reductions. The last child of main that is not done is number 6.
use Rattle.std.specs.Prelude.{◌≡◌, ℕ, List, Some, slice_get}
use Rattle.oss_syntax.specs.declared.access.Mode.{Mode}
use Rattle.oss_syntax.specs.declared.access.Mode.TheVariants.{Read, Write, Fold}
use Rattle.oss_model.specs.Forest.{Forest, IsReadSatisfied, IsWriteSatisfied}
use Rattle.oss_access_lists.specs.declared.hang.Hang.{Hang}
use Rattle.oss_access_lists.specs.declared.marks.Marks.{Marks}
use Rattle.oss_access_lists.specs.Tables.{marks_at, wires_of}
use Rattle.oss_links.specs.Search.{IsInTheWay}
use Rattle.oss_regions.specs.Walks.{IsUndoneIn}

-- The access of the open n stands in the way of the access v, which waits in this mode.
pub record IsNumberInTheWay (hangs : List Hang) (stand : List Marks) (numbers : List ℕ) (mode : Mode) (v n : ℕ) : Type 0 where
  pub place : ℕ
  pub is : slice_get numbers place ≡ Some n
  pub way : IsInTheWay (wires_of hangs) (marks_at stand) mode v place

-- The access of the open n hangs below p, and is not done.
pub record IsNumberUndone (hangs : List Hang) (stand : List Marks) (numbers : List ℕ) (p n : ℕ) : Type 0 where
  pub place : ℕ
  pub is : slice_get numbers place ≡ Some n
  pub undone : IsUndoneIn (wires_of hangs) (marks_at stand) p place

-- What an access of this mode waits for before its task may begin has come: a reduction waits for nothing.
abbrev pub IsSatisfied : {K : Type 0} → Forest K → Mode → K → Type 0
IsSatisfied F Read v = IsReadSatisfied F v
IsSatisfied F Write v = IsWriteSatisfied F v
IsSatisfied F (Fold op) v = Unit {0}
