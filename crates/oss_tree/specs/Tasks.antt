-- Tasks by their numbers: where each stands in the tree of tasks, which are complete, and which open task is the least.
-- A task is complete once its body has ended, it has given up all its cells, and each task that it created is complete (the
-- taskwait directive of OmpSs-2). A task that has ended and given up all its cells is closed, whatever its children do; one that
-- is not is open. Points and keys are those of the definitions of runs: a task's key is its point, and behind it how many tasks
-- it has created.
-- Read against: main creates a and b, and a creates c. Their points are 0, 0.0, 0.1 and 0.0.0, and their keys 0.2, 0.0.1, 0.1.0
-- and 0.0.0.0: so of all four c is the least, then a, b and main. Where a has ended, a is complete only once c is. Where c has
-- ended too, b is the least that is open.
use Rattle.std.specs.Prelude.{◌≡◌, ◌<◌, ◌≤◌, ℕ, Bool, true, false, List, [], ◌∷◌, ◌++◌, length, Option, Some, None, slice_get, slice_set}
use Rattle.oss_model.specs.Order.{IsBefore}
use Rattle.oss_tree.specs.declared.output.Print.{Print}
use Rattle.oss_tree.specs.declared.task.Task.{Task}
use Rattle.oss_model.specs.declared.task_no.TaskNo.{TaskNo}

-- What contracts see of a tree: its tasks, each at the place of its number, and its prints in the order of time. In the example
-- the tasks are main, a, b, c where they were created in this order.
pub record Kept : Type 0 where
  pub tasks : List Task
  pub prints : List Print

-- The number as a task's: 2 of b.
abbrev pub number : ℕ → TaskNo
number t = record { 0 = t }

-- The task with this number has this point: 2 and 0.1 of b.
pub record HasPoint (tasks : List Task) (t : ℕ) (p : List ℕ) : Type 0 where
  pub task : Task
  pub at_ : slice_get tasks t ≡ Some task
  pub point : task.point ≡ p

-- Main before anything has happened: it has no cells that it might have to give up.
abbrev pub main_task : Task
main_task = record { point = 0 ∷ []; parent = None; children = []; wait = false; ended = false; gave_all = true }

-- The tree of main alone, without prints.
abbrev pub opening : Kept
opening = record { tasks = main_task ∷ []; prints = [] }

-- A new task, which this one, with this number, creates: its point is that of its creator with the number of the tasks that were
-- created before it. The first child of b has the point 0.1.0.
abbrev pub new_task : Task → ℕ → Bool → Task
new_task creator t wait = record { point = creator.point ++ length creator.children ∷ []; parent = Some (number t); children = []; wait = wait; ended = false; gave_all = false }

-- A task that has created one more: a with c.
abbrev pub with_child : Task → ℕ → Task
with_child creator child = record creator { children = creator.children ++ number child ∷ [] }

-- The tasks after a creation by the task with this number: c stands behind all others, and among the children of a.
abbrev pub created_by : List Task → ℕ → Bool → Option Task → List Task
created_by tasks t wait None = tasks
created_by tasks t wait (Some creator) = slice_set tasks t (with_child creator (length tasks)) ++ new_task creator t wait ∷ []

-- The same, where the creator is the one with this number: with 1, it is a.
abbrev pub grown : List Task → ℕ → Bool → List Task
grown tasks t wait = created_by tasks t wait (slice_get tasks t)

-- The task may create one more: it has created fewer than 65,535, and is nested less than 64 deep. Main is nested 0 deep.
pub record MayCreate (tasks : List Task) (t : ℕ) : Type 0 where
  pub creator : Task
  pub at_ : slice_get tasks t ≡ Some creator
  pub few : length creator.children < 65535
  pub shallow : length creator.point ≤ 64

-- A task whose body has ended; all else stays.
abbrev pub ended_task : Task → Task
ended_task one = record one { ended = true }

-- A task that has given up all its cells; all else stays.
abbrev pub given_task : Task → Task
given_task one = record one { gave_all = true }

-- The tasks after one has changed so: with `ended_task` at 1, a has ended, and all others are as before.
abbrev pub changed_to : List Task → ℕ → (Task → Task) → Option Task → List Task
changed_to tasks t change None = tasks
changed_to tasks t change (Some one) = slice_set tasks t (change one)

-- The same, where the task is the one with this number.
abbrev pub changed : List Task → ℕ → (Task → Task) → List Task
changed tasks t change = changed_to tasks t change (slice_get tasks t)

-- The task is closed: its body has ended, and it has given up all its cells.
abbrev pub IsClosed : Task → Type 0
IsClosed one = (one.ended ≡ true) × (one.gave_all ≡ true)

-- The task with this number is complete: it is closed, and each of its children is complete. In the example a is once a and c
-- are closed.
pub data IsComplete (tasks : List Task) : ℕ → Type 0 where
  complete : {t : ℕ} (one : Task) → slice_get tasks t ≡ Some one → IsClosed one → ((k c : ℕ) → slice_get one.children k ≡ Some (number c) → IsComplete tasks c) → IsComplete tasks t

-- Each task is complete: all four are once all are closed.
abbrev pub AreComplete : List Task → Type 0
AreComplete tasks = (t : ℕ) (one : Task) → slice_get tasks t ≡ Some one → IsComplete tasks t

-- The key of a task: 0.0.1 of a.
abbrev pub key_of : Task → List ℕ
key_of one = one.point ++ length one.children ∷ []

-- The task with this number is the least that is open: each task with a key before its own is closed. In the example c is, and
-- b is where a and c are closed.
pub record IsLeastOpen (tasks : List Task) (t : ℕ) : Type 0 where
  pub task : Task
  pub at_ : slice_get tasks t ≡ Some task
  pub open_ : IsClosed task → ⊥
  pub least : (u : ℕ) (other : Task) → slice_get tasks u ≡ Some other → IsBefore (key_of other) (key_of task) → IsClosed other

-- Each child of the task is complete: those of b are, since it has none.
abbrev pub AreChildrenComplete : List Task → ℕ → Type 0
AreChildrenComplete tasks t = (one : Task) → slice_get tasks t ≡ Some one → (k c : ℕ) → slice_get one.children k ≡ Some (number c) → IsComplete tasks c

-- The second task is the first child of the first that is not complete: a of main, also where b is complete.
pub record IsFirstUnfinished (tasks : List Task) (t child : ℕ) : Type 0 where
  pub creator : Task
  pub at_ : slice_get tasks t ≡ Some creator
  pub place : ℕ
  pub is : slice_get creator.children place ≡ Some (number child)
  pub left : IsComplete tasks child → ⊥
  pub first : (k c : ℕ) → k < place → slice_get creator.children k ≡ Some (number c) → IsComplete tasks c

-- The task with this number is what its creator, with that number, names as a child at this place: it was created later, and
-- its point is its creator's with the place behind it.
pub record IsChildOf (tasks : List Task) (t : ℕ) (creator : Task) (k c : ℕ) : Type 0 where
  pub task : Task
  pub at_ : slice_get tasks c ≡ Some task
  pub later : t < c
  pub parent : task.parent ≡ Some (number t)
  pub point : task.point ≡ creator.point ++ k ∷ []

-- The task with this number stands among the children of its creator.
pub record HasCreator (tasks : List Task) (c : ℕ) (one : Task) : Type 0 where
  pub number_is : ℕ
  pub creator : Task
  pub at_ : slice_get tasks number_is ≡ Some creator
  pub parent : one.parent ≡ Some (number number_is)
  pub place : ℕ
  pub is : slice_get creator.children place ≡ Some (number c)

-- The tasks are those of a tree: main is the first, with the point 0; each other has a creator; and each child is a task whose
-- point tells its place. No task has created more than 65,535 others or is nested more than 64 deep.
pub record IsTree (tasks : List Task) : Type 0 where
  pub main : Task
  pub main_at : slice_get tasks 0 ≡ Some main
  pub main_point : main.point ≡ 0 ∷ []
  pub main_parent : main.parent ≡ None
  pub created : (c : ℕ) (one : Task) → 0 < c → slice_get tasks c ≡ Some one → HasCreator tasks c one
  pub children : (t : ℕ) (one : Task) → slice_get tasks t ≡ Some one → (k c : ℕ) → slice_get one.children k ≡ Some (number c) → IsChildOf tasks t one k c
  pub few : (t : ℕ) (one : Task) → slice_get tasks t ≡ Some one → length one.children ≤ 65535
  pub shallow : (t : ℕ) (one : Task) → slice_get tasks t ≡ Some one → length one.point ≤ 65
