-- The accesses to one cell as contracts see them, and how an opening and a gift change them. Access 0 is main's. Tasks go by the numbers of
-- their opens, which rise; main is number 0.
-- Read against: main writes a cell; tasks 1 and 2 are opened there below main, and task 4 below 1. The numbers are 0, 1, 2, 4, so task 4 has
-- access 3; it hangs first in the list of access 1. Where task 4 gives up the cell, the row of access 3 alone changes. Where task 1 then gives it
-- up too, accesses 1 and 3 are spent. Without them the numbers are 0 and 2, and the same is told.
use Rattle.std.specs.Prelude.{◌≡◌, ℕ, ◌<◌, false, true, List, [], ◌∷◌, ◌++◌, length, slice_get, Some}
use Rattle.oss_syntax.specs.declared.access.Mode.{Mode}
use Rattle.oss_model.specs.Rights.{covers}
use Rattle.oss_access_lists.specs.declared.hang.Hang.{Hang}
use Rattle.oss_access_lists.specs.Steps.{IsHung, IsGift}
use Rattle.oss_access_lists.specs.Tables.{gave_in, hang_at, no_hang, opened_in, wires_of}
use Rattle.oss_retire.specs.Remainder.{AreRising}
use Rattle.oss_retire.specs.Tables.{TellsTheSame}
use Rattle.oss_fragments.specs.declared.fragment.Fragment.{Fragment}

-- The accesses to one cell.
pub record Here : Type 0 where
  -- how each hangs, its mode, and whether it is given up
  pub hangs : List Hang
  -- the number of the task of each, main's first
  pub tasks : List ℕ

-- Those to each cell of a fragment.
abbrev pub here_of : Fragment → Here
here_of a = record { hangs = a.line.hangs; tasks = a.tasks.items }

-- Main alone.
abbrev pub bare : Here
bare = record { hangs = no_hang ∷ []; tasks = 0 ∷ [] }

-- By both, the same is told of the opened tasks: at most, accesses on which nothing depends any more are left out.
abbrev pub IsLess : Here → Here → Type 0
IsLess old new = TellsTheSame old.hangs old.tasks new.hangs new.tasks

-- The access of the task.
abbrev pub IsEntry : Here → ℕ → ℕ → Type 0
IsEntry h number v = slice_get h.tasks v ≡ Some number

-- Each access is that of one task; main's is the first, and the numbers rise.
pub record AreEntries (h : Here) : Type 0 where
  pub size : length h.tasks ≡ length h.hangs
  pub main : slice_get h.tasks 0 ≡ Some 0
  pub rising : AreRising h.tasks

-- A task of this number and mode may be opened below this creator: the creator has an access that it has not given up and that covers
-- the mode, and no access that is kept there is of a task with this number or a greater one.
pub record MayHang (number parent : ℕ) (mode : Mode) (h : Here) : Type 0 where
  pub above : ℕ
  pub above_is : IsEntry h parent above
  pub held : (hang_at h.hangs above).gave ≡ false
  pub covered : covers (hang_at h.hangs above).mode mode ≡ true
  pub newest : (v t : ℕ) → IsEntry h t v → t < number

-- It was opened there: it hangs behind the other children of its creator, and all else is as before.
pub record IsOpened (number parent : ℕ) (mode : Mode) (old new : Here) : Type 0 where
  pub above : ℕ
  pub above_is : IsEntry old parent above
  pub hangs : new.hangs ≡ opened_in old.hangs above mode
  pub hung : IsHung (wires_of old.hangs) (wires_of new.hangs) above (length old.hangs)
  pub tasks : new.tasks ≡ old.tasks ++ number ∷ []

-- The task has an access that is kept there.
pub record IsShown (number : ℕ) (h : Here) : Type 0 where
  pub not_main : number ≡ 0 → ⊥
  pub entry : ℕ
  pub entry_is : IsEntry h number entry

-- The task has given it up, and all else is as before.
pub record IsGivenUp (number : ℕ) (old new : Here) : Type 0 where
  pub entry : ℕ
  pub entry_is : IsEntry old number entry
  pub hangs : new.hangs ≡ gave_in old.hangs entry
  pub given : IsGift (wires_of old.hangs) (wires_of new.hangs) entry
  pub tasks : new.tasks ≡ old.tasks
