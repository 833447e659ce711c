-- What the calls that give up cells ask and leave.
-- Read against: a task that owes the cells 0 and 1, each by a let, owes 1 alone behind the let of 0, and none behind that of 1, which is its last.
use Rattle.std.specs.Prelude.{◌≡◌, ℕ, suc, ◌↔◌, Bool, true, false, List, Some, None, slice_get}
use Rattle.oss_ranges.specs.Cells.{Assigns, value_at}
use Rattle.oss_deps.specs.Opens.{HasOpened}
use Rattle.oss_deps.specs.Seen.{Seen}
use Rattle.oss_kept_tasks.specs.declared.held.Held.{Held}
use Rattle.oss_kept_tasks.specs.declared.held.Owed.{Owed}
use Rattle.oss_core.specs.Changes.{IsChanged}

-- The task is there, and owes the cell.
pub record OwesCell (tasks : List Held) (v c : ℕ) : Type 0 where
  pub held : Held
  pub is : slice_get tasks v ≡ Some held
  pub owed : Owed
  pub owes : value_at held.owed.pieces c ≡ Some owed

-- It was opened with an access to the cell, and has not given it up.
pub record HoldsCell (seen : Seen) (v c : ℕ) : Type 0 where
  pub opened : HasOpened seen.opens c v
  pub kept : seen.given v c ≡ false

-- The task owes the cell no more, and no other task has changed; whether it owes none now.
pub record HasCleared (v c : ℕ) (last : Bool) (old new : List Held) : Type 0 where
  pub before : Held
  pub after : Held
  pub changed_is : IsChanged old new v before after
  pub body : after.body ≡ before.body
  pub owed : Assigns c (suc c) None before.owed.pieces after.owed.pieces
  pub last_is : (last ≡ true) ↔ ((k : ℕ) → value_at after.owed.pieces k ≡ None)
