-- Which tasks are to be asked whether they may do something, and which need not be.
-- Read against: main has created a, with out(x), and b, with in(x), and waits; a runs. Only a may step: so a alone is a list with all that may step, and main, a, b is one too.
-- Main owes nothing, and a and b owe x, but have not ended, and have not released it: each of the three is still, and the empty list has all that may give something up. Once
-- a has ended it is still no more, and a list that has all that may give something up has a.
use Rattle.std.specs.Prelude.{◌≡◌, ℕ, ◌<◌, ◌⊎◌, false, List, length, Some, slice_get}
use Rattle.oss_model.specs.Order.{IsIn}
use Rattle.oss_model.specs.declared.task_no.TaskNo.{TaskNo}
use Rattle.oss_ranges.specs.Cells.{value_at}
use Rattle.oss_body.specs.Relation.{is_over, released_by}
use Rattle.oss_tree.specs.Tasks.{number}
use Rattle.oss_kept_tasks.specs.declared.held.Held.{Held}
use Rattle.oss_kept_tasks.specs.declared.held.Owed.{Owed}
use Rattle.oss_kept_tasks.specs.declared.held.Owed.TheVariants as owed
use Rattle.oss_enabled_moves.specs.Enabled.{MayStep}
use Rattle.oss_core.specs.Kept.{Kept}
use Rattle.oss_core.specs.PointOrder.{AreInPointOrder}

-- The task gives nothing up, whatever others do, before it has acted: while it owes a cell it has not ended, and has not released the cell. A cell that it owes by a join it may have
-- released: the slot is joined behind its end alone.
pub record IsStill (k : Kept) (v : ℕ) : Type 0 where
  pub held : Held
  pub is : slice_get k.tasks v ≡ Some held
  pub still : (c : ℕ) (way : Owed) → value_at held.owed.pieces c ≡ Some way → (is_over held.body ≡ false) × (way ≡ owed.Let → released_by held.body c ≡ false)

-- The list has each task that may step, and stands in point order.
pub record HaveSteppers (k : Kept) (list : List TaskNo) : Type 0 where
  pub ordered : AreInPointOrder k.tree.tasks list
  pub there : (v : TaskNo) → IsIn v list → v.0 < length k.tree.tasks
  pub all : (v : ℕ) → MayStep k.tasks k.tree.tasks k.seen v → IsIn (number v) list

-- The list has each task that is not still, and stands in point order.
pub record HaveGivers (k : Kept) (list : List TaskNo) : Type 0 where
  pub ordered : AreInPointOrder k.tree.tasks list
  pub there : (v : TaskNo) → IsIn v list → v.0 < length k.tree.tasks
  pub all : (v : ℕ) → v < length k.tree.tasks → IsIn (number v) list ⊎ IsStill k v
