-- Tasks put into the order of their points.
-- Read against: main creates a and b. Of the list b, main, a each task stands there once, and in the order of their points it is main, a, b.
use Rattle.std.specs.Prelude.{◌≡◌, ℕ, Bool, List, [], ◌∷◌, map}
use Rattle.std.specs.List.Sorted.{IsSortedBy, IsStableBy}
use Rattle.std.specs.Cmp.Lexicographic.{slice_cmp}
use Rattle.std.specs.Ordering.{is_lt, nat_cmp}
use Rattle.oss_model.specs.Order.{IsBefore, IsIn}
use Rattle.oss_model.specs.declared.task_no.TaskNo.{TaskNo}
use Rattle.oss_tree.specs.declared.task.Task.{Task}
use Rattle.oss_tree.specs.Tasks.{HasPoint}
use Rattle.oss_core.specs.declared.ordering.Placed.{Placed}
use Rattle.oss_core.specs.PointOrder.{AreInPointOrder}

-- No task stands in the list twice.
abbrev pub AreOnce : List TaskNo → Type 0
AreOnce [] = Unit {0}
AreOnce (v ∷ rest) = (IsIn v rest → ⊥) × AreOnce rest

-- The second list has the tasks of the first, in point order: main, a, b where the first is b, main, a.
pub record AreInOrder (tasks : List Task) (list now : List TaskNo) : Type 0 where
  pub ordered : AreInPointOrder tasks now
  pub all : (v : TaskNo) → IsIn v list → IsIn v now
  pub only : (v : TaskNo) → IsIn v now → IsIn v list

-- The point of the first is before that of the second: that of a, 0.0, is before that of b, 0.1.
abbrev pub comes_before : Placed → Placed → Bool
comes_before x y = is_lt (slice_cmp nat_cmp x.point.now y.point.now)

-- The tasks are those that stand in a list with their points, in the order of these: main, a, b where it is b at 0.1, main at 0, a at 0.0.
pub record AreSorted (placed : List Placed) (tasks : List TaskNo) : Type 0 where
  pub shown : List Placed
  pub sorted : IsSortedBy comes_before shown
  pub stable : IsStableBy comes_before placed shown
  pub tasks_are : tasks ≡ map (λ one. one.task) shown

-- The point of the first task is before that of the second: that of a before that of b, and main's before both.
abbrev pub ArePointsBefore : List Task → TaskNo → TaskNo → Type 0
ArePointsBefore tasks v w = (p q : List ℕ) → HasPoint tasks v.0 p → HasPoint tasks w.0 q → IsBefore p q
