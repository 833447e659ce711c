-- Tasks in the order of their points.
-- Read against: main creates a and b, and a creates c. Then main, a, c, b stand in point order, and so do main, b; b, main do not, and neither do a, a.
use Rattle.std.specs.Prelude.{ℕ, List, [], ◌∷◌}
use Rattle.oss_model.specs.Order.{IsBefore, IsIn}
use Rattle.oss_model.specs.declared.task_no.TaskNo.{TaskNo}
use Rattle.oss_tree.specs.declared.task.Task.{Task}
use Rattle.oss_tree.specs.Tasks.{HasPoint}

-- The tasks stand in point order, none twice.
abbrev pub AreInPointOrder : List Task → List TaskNo → Type 0
AreInPointOrder tasks [] = Unit {0}
AreInPointOrder tasks (v ∷ rest) = ((w : TaskNo) → IsIn w rest → (p q : List ℕ) → HasPoint tasks v.0 p → HasPoint tasks w.0 q → IsBefore p q) × AreInPointOrder tasks rest
