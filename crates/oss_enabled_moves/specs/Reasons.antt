-- Because of which other task the next act of a task may not be made as yet.
-- Read against: main has created a, with out(x), and b, with in(x), and waits; a runs. Because of a, whose access to x is not done, b may not begin; and because of a, its first child that
-- is not complete, and because of b too, main's wait may not be made. There is no such task for a: it may step.
use Rattle.std.specs.Prelude.{◌≡◌, ℕ, suc, false, List, length, Some, slice_get}
use Rattle.oss_syntax.specs.declared.access.Range.{Range}
use Rattle.oss_model.specs.Order.{IsIn}
use Rattle.oss_body.specs.declared.act.Act.TheVariants as acts
use Rattle.oss_body.specs.declared.body.Body.{Body}
use Rattle.oss_body.specs.Relation.{has_begun, pending_of}
use Rattle.oss_tree.specs.declared.task.Task.{Task as TreeTask}
use Rattle.oss_tree.specs.Tasks.{IsComplete, number}
use Rattle.oss_deps.specs.Hindrances.{HasUndoneChild, Hinders}
use Rattle.oss_deps.specs.Seen.{Seen}

-- The second task is a child of the first.
pub record IsChildIn (tree : List TreeTask) (v u : ℕ) : Type 0 where
  pub creator : TreeTask
  pub at_ : slice_get tree v ≡ Some creator
  pub place : ℕ
  pub is : slice_get creator.children place ≡ Some (number u)

-- It is the newest.
pub record IsNewestIn (tree : List TreeTask) (v u : ℕ) : Type 0 where
  pub child : IsChildIn tree v u
  pub last : suc child.place ≡ length child.creator.children

-- Because of the second task the next act of the first, which has this body, may not be made as yet: an access of the second stands in its way before its first act; it awaits its newest
-- child, which is not complete; it waits for all its children, of which one is not complete; or for accesses of its children, of which one is not done.
pub data IsReason (tree : List TreeTask) (seen : Seen) (v : ℕ) (b : Body) (u : ℕ) : Type 0 where
  access : has_begun b ≡ false → (v ≡ 0 → ⊥) → Hinders seen.opens seen.given v u → IsReason tree seen v b u
  newest : pending_of b ≡ acts.Await → IsNewestIn tree v u → (IsComplete tree u → ⊥) → IsReason tree seen v b u
  child : pending_of b ≡ acts.Wait → IsChildIn tree v u → (IsComplete tree u → ⊥) → IsReason tree seen v b u
  use_ : (ranges : List Range) (one : Range) → pending_of b ≡ acts.WaitOn ranges → IsIn one ranges → HasUndoneChild seen.opens seen.given v one.lo one.hi u → IsReason tree seen v b u
