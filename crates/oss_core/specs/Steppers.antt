-- The tasks that may step, which have the turns of a wave.
-- Read against: main has created a, which has out(x) and has not ended, b, which has in(x), and c, which has ended and may give up its cells, and main waits.
-- Of main, a, b and c only a may step: main waits, b is not met, and c has no act left. So the list is a alone.
use Rattle.std.specs.Prelude.{◌≡◌, ◌⊎◌, ℕ, List, [], ◌∷◌, ◌++◌}
use Rattle.oss_model.specs.Order.{IsIn}
use Rattle.oss_model.specs.declared.task_no.TaskNo.{TaskNo}
use Rattle.oss_tree.specs.Tasks.{number}
use Rattle.oss_enabled_moves.specs.Enabled.{MayStep}
use Rattle.oss_core.specs.Kept.{Kept}
use Rattle.oss_core.specs.PointOrder.{AreInPointOrder}

-- The list has just the tasks that may step, in point order.
pub record AreSteppers (k : Kept) (list : List TaskNo) : Type 0 where
  pub ordered : AreInPointOrder k.tree.tasks list
  pub may : (v : TaskNo) → IsIn v list → MayStep k.tasks k.tree.tasks k.seen v.0
  pub all : (v : ℕ) → MayStep k.tasks k.tree.tasks k.seen v → IsIn (number v) list

-- Where this is so of the task, it stands behind the others now; where it is not, the list is as it was.
abbrev pub IsAddedWhere : Type 0 → TaskNo → List TaskNo → List TaskNo → Type 0
IsAddedWhere P v old new = (P × (new ≡ old ++ v ∷ [])) ⊎ ((P → ⊥) × (new ≡ old))
