-- Tasks that wait, and for which other task each does.
-- Read against: main has created a, with out(x), and b, with in(x), and waits; a runs. Then b is hindered by a, whose access to x is not done, and main by a, its first child that is
-- not complete, and by b too. Nothing hinders a: it may step. Once a has ended and given up x it is spent.
use Rattle.std.specs.Prelude.{◌≡◌, ℕ, true, false, None, Some, slice_get}
use Rattle.oss_ranges.specs.Cells.{value_at}
use Rattle.oss_body.specs.Acts.{goes_on}
use Rattle.oss_body.specs.Relation.{is_over, pending_of}
use Rattle.oss_kept_tasks.specs.declared.held.Held.{Held}
use Rattle.oss_enabled_moves.specs.Enabled.{MayStep}
use Rattle.oss_enabled_moves.specs.Reasons.{IsReason}
use Rattle.oss_core.specs.Kept.{Kept}

-- The first task has not ended, stands before no fault, and because of the second its next act may not be made as yet.
pub record IsHindered (k : Kept) (v u : ℕ) : Type 0 where
  pub held : Held
  pub is : slice_get k.tasks v ≡ Some held
  pub running : is_over held.body ≡ false
  pub goes : goes_on (pending_of held.body) ≡ true
  pub reason : IsReason k.tree.tasks k.seen v held.body u

-- Nothing hinders the task: its next act may be made, or it has none, since it has ended or stands before a fault.
pub data IsFree (k : Kept) (v : ℕ) : Type 0 where
  steps : MayStep k.tasks k.tree.tasks k.seen v → IsFree k v
  over : (held : Held) → slice_get k.tasks v ≡ Some held → is_over held.body ≡ true → IsFree k v
  fails : (held : Held) → slice_get k.tasks v ≡ Some held → goes_on (pending_of held.body) ≡ false → IsFree k v

-- The task has ended, and owes no cell: it does nothing any more.
pub record IsSpent (k : Kept) (v : ℕ) : Type 0 where
  pub held : Held
  pub is : slice_get k.tasks v ≡ Some held
  pub over : is_over held.body ≡ true
  pub none : (c : ℕ) → value_at held.owed.pieces c ≡ None
