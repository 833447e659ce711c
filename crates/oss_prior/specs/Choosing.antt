-- Which of the tasks that can step has the next turn: the successors of a turn come before all others, then the priority counts, and among equals the first in point order.
-- Read against: 0.0 of priority 1, 0.1 of priority 5 and 0.3 of priority 3, of which none is a successor: 0.1 is chosen. If 0.0 is a successor it is chosen; and of two tasks of priority 5 that
-- are no successors, 0.1 and 0.4, it is 0.1.
use Rattle.std.specs.Prelude.{◌≡◌, ◌<◌, ◌⊎◌, ◌↔◌, ℕ, ℤ, pos, true, false, List, Option, None, Some, IsTrue, slice_get}
use Rattle.std.specs.Cmp.Lexicographic.{slice_cmp}
use Rattle.std.specs.BTreeSet.{BTreeSet, contains}
use Rattle.std.specs.Ordering.{flip_args, int_cmp, is_gt, nat_cmp, on, then_cmp}
use Rattle.std.specs.declared.cmp.Ordering.{Ordering}
use Rattle.oss_model.specs.Bodies.{Start}
use Rattle.oss_model.specs.Order.{IsIn}
use Rattle.oss_model.specs.declared.task_no.TaskNo.{TaskNo}
use Rattle.oss_code.specs.declared.code.CodeParts.{CodeParts}
use Rattle.oss_machine.specs.Frames.{CodeScript}
use Rattle.oss_body.specs.Relation.{IsBody}
use Rattle.oss_tree.specs.Tasks.{HasPoint}
use Rattle.oss_kept_tasks.specs.declared.held.Held.{Held}
use Rattle.oss_core.specs.Kept.{Kept}
use Rattle.oss_wakeups.specs.Asides.{CanAct}
use Rattle.oss_prior.specs.declared.choosing.Before.{Before}
use Rattle.oss_prior.specs.declared.ready.Ready.{Ready}

-- The order of turns: the greater priority comes first, and of equal ones the earlier point.
abbrev pub by_turn : Ready → Ready → Ordering
by_turn = then_cmp (flip_args (on (λ r. r.priority) int_cmp)) (then_cmp (on (λ r. r.point) (slice_cmp nat_cmp)) (on (λ r. r.number) nat_cmp))

-- It is one of these.
abbrev pub Has : BTreeSet Ready → Ready → Type 0
Has queue one = IsTrue (contains by_turn queue one)

-- This is the first of them, or there is none.
abbrev pub IsFirstIn : BTreeSet Ready → Option TaskNo → Type 0
IsFirstIn queue None = (one : Ready) → Has queue one → ⊥
IsFirstIn queue (Some task) = (one : Ready) × (one.number ≡ task.0) × Has queue one × ((other : Ready) → Has queue other → is_gt (by_turn one other) ≡ false)

-- The number is the priority of the task: that of its clause, and main's is 0.
pub record IsPriority (k : Kept) (v : ℕ) (priority : ℤ) : Type 0 where
  pub main : v ≡ 0 → priority ≡ pos 0
  pub clause : (v ≡ 0 → ⊥) → (code : CodeParts) (start : Start CodeScript) (found : List ℕ) (held : Held) → slice_get k.tasks v ≡ Some held → IsBody code start found held.body → priority ≡ start.order.priority

-- This is the task with this number, with its point and its priority.
pub record IsTask (k : Kept) (v : ℕ) (one : Ready) : Type 0 where
  pub number : one.number ≡ v
  pub point : HasPoint k.tree.tasks v one.point
  pub priority : IsPriority k v one.priority

-- Each of these can step, and each that can step is one of these.
pub record AreReady (k : Kept) (queue : BTreeSet Ready) : Type 0 where
  pub only : (one : Ready) → Has queue one → IsTask k one.number one × CanAct k one.number
  pub all : (v : ℕ) → CanAct k v → (one : Ready) × Has queue one × (one.number ≡ v)

-- The task was there when the turn began, and could not step then; the queue has those that could, but for the task whose turn it was.
pub record HasWaited (before : Before) (queue : BTreeSet Ready) (v : ℕ) (one : Ready) : Type 0 where
  pub there_ : v < before.count
  pub apart : Has queue one → ⊥
  pub other : before.able ≡ true → v ≡ before.task.0 → ⊥

-- The task is added to the successors, if it waited.
abbrev pub AddsSuccessor : Kept → Before → BTreeSet Ready → TaskNo → BTreeSet Ready → BTreeSet Ready → Type 0
AddsSuccessor k before queue task old new =
    (one : Ready) × IsTask k task.0 one × ((HasWaited before queue task.0 one × ((x : Ready) → Has new x ↔ ((x ≡ one) ⊎ Has old x))) ⊎ ((HasWaited before queue task.0 one → ⊥) × (new ≡ old)))

-- Of the tasks that can step now, these are the ones that waited.
pub record AreSuccessors (k : Kept) (before : Before) (queue : BTreeSet Ready) (free : List TaskNo) (successors : BTreeSet Ready) : Type 0 where
  pub only : (one : Ready) → Has successors one → (v : TaskNo) × IsIn v free × IsTask k v.0 one × HasWaited before queue v.0 one
  pub all : (v : TaskNo) → IsIn v free → ((one : Ready) → IsTask k v.0 one → HasWaited before queue v.0 one) → (one : Ready) × Has successors one × (one.number ≡ v.0)

-- The tasks that can step now were added.
pub record AreAdded (k : Kept) (free : List TaskNo) (old new : BTreeSet Ready) : Type 0 where
  pub only : (one : Ready) → Has new one → Has old one ⊎ ((v : TaskNo) × IsIn v free × IsTask k v.0 one)
  pub kept : (one : Ready) → Has old one → Has new one
  pub all : (v : TaskNo) → IsIn v free → (one : Ready) × Has new one × (one.number ≡ v.0)

-- The next turn is that of the first successor, or without one of the first task that can step.
abbrev pub IsChosen : BTreeSet Ready → BTreeSet Ready → Option TaskNo → Type 0
IsChosen successors queue None = IsFirstIn successors None × IsFirstIn queue None
IsChosen successors queue (Some task) = IsFirstIn successors (Some task) ⊎ (IsFirstIn successors None × IsFirstIn queue (Some task))

-- Of each task but this one the body is what it was.
pub record KeepsOthers (task : ℕ) (old new : Kept) : Type 0 where
  pub body : (v : ℕ) (held : Held) → (v ≡ task → ⊥) → slice_get old.tasks v ≡ Some held → (after : Held) × (slice_get new.tasks v ≡ Some after) × (after.body ≡ held.body)

-- Of each task the body is what it was.
abbrev pub KeepsBodies : Kept → Kept → Type 0
KeepsBodies old new = (v : ℕ) (held : Held) → slice_get old.tasks v ≡ Some held → (after : Held) × (slice_get new.tasks v ≡ Some after) × (after.body ≡ held.body)
