-- The points of the tasks of a state, in point order.
-- Read against: main creates a and b, and a creates c. The points of all tasks are 0, 0.0, 0.0.0 and 0.1, in this order, in whatever order the tasks
-- were created.
use Rattle.std.specs.Prelude.{◌≡◌, ℕ, zero, suc, ◌↔◌, List, [], ◌∷◌, ◌++◌}
use Rattle.oss_machine.specs.Frames.{CodeScript}
use Rattle.oss_model.specs.Machine.{Task, State, At}
use Rattle.oss_model.specs.Order.{IsBefore, IsIn, written}
use Rattle.oss_model.specs.declared.task_no.TaskNo.{TaskNo}
use Rattle.oss_tree.specs.declared.task.Task.{Task as TreeTask}
use Rattle.oss_tree.specs.Tasks.{HasPoint, number}

-- Each point is before all that follow it.
abbrev pub AreRising : List (List ℕ) → Type 0
AreRising [] = Unit {0}
AreRising (p ∷ rest) = ((q : List ℕ) → IsIn q rest → IsBefore p q) × AreRising rest

-- The points are exactly those of the tasks of the state, each once, in point order.
pub record ArePoints (s : State CodeScript) (points : List (List ℕ)) : Type 0 where
  pub rising : AreRising points
  pub exact : (q : List ℕ) → (IsIn q points ↔ ((p : List ℕ) × (t : Task CodeScript) × At s p t × (q ≡ written p)))

-- The numbers of so many tasks.
abbrev pub numbers_to : ℕ → List TaskNo
numbers_to zero = []
numbers_to (suc n) = numbers_to n ++ number n ∷ []

-- The points are those of these tasks of a tree, in the same order.
pub data ArePointsOf (tasks : List TreeTask) : List TaskNo → List (List ℕ) → Type 0 where
  none : ArePointsOf tasks [] []
  next : {vs : List TaskNo} {ps : List (List ℕ)} (v : TaskNo) (p : List ℕ) → ArePointsOf tasks vs ps → HasPoint tasks v.0 p
      → ArePointsOf tasks (vs ++ v ∷ []) (ps ++ p ∷ [])
