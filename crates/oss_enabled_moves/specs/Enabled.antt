-- Which moves may be made, told of what is kept of the tasks, of their tree and of a dependency system alone.
-- Read against: main has created out(x) and in(x), and waits. The first task may step; the second may not, since it is not met; and main may not, since
-- the first is not complete. Behind the end of the first task it may give up x by a let, and by no join.
use Rattle.std.specs.Prelude.{◌≡◌, ℕ, suc, ◌⊎◌, true, false, List, length, Some, slice_get}
use Rattle.oss_syntax.specs.declared.access.Op.{Op}
use Rattle.oss_syntax.specs.declared.access.Mode.TheVariants.{Fold}
use Rattle.oss_model.specs.Context.{in_clauses}
use Rattle.oss_model.specs.Forest.{IsJoinSatisfied}
use Rattle.oss_meaning.specs.Clauses.{waited_for}
use Rattle.oss_meaning.specs.Sections.{declared_on}
use Rattle.oss_ranges.specs.Cells.{value_at}
use Rattle.oss_body.specs.declared.act.Act.{Act}
use Rattle.oss_body.specs.declared.act.Act.TheVariants as acts
use Rattle.oss_body.specs.declared.body.Body.{Body}
use Rattle.oss_body.specs.Acts.{goes_on}
use Rattle.oss_body.specs.Relation.{has_begun, has_wait, is_over, pending_of, released_by}
use Rattle.oss_tree.specs.declared.task.Task.{Task as TreeTask}
use Rattle.oss_tree.specs.Tasks.{AreChildrenComplete, IsComplete, number}
use Rattle.oss_deps.specs.declared.opened.Open.{Open}
use Rattle.oss_deps.specs.Opens.{AreChildrenDone, HasOpened, IsMet, mode_in, opened_forest}
use Rattle.oss_deps.specs.Seen.{Seen}
use Rattle.oss_kept_tasks.specs.declared.held.Held.{Held}
use Rattle.oss_kept_tasks.specs.declared.held.Owed.TheVariants as owed

-- The newest child of the task is complete, if it has one.
abbrev pub IsNewestComplete : List TreeTask → ℕ → Type 0
IsNewestComplete tasks v = (one : TreeTask) → slice_get tasks v ≡ Some one → (k c : ℕ) → suc k ≡ length one.children → slice_get one.children k ≡ Some (number c) → IsComplete tasks c

-- What the act waits for has come.
abbrev pub IsActMet : List TreeTask → Seen → ℕ → Act → Type 0
IsActMet tree seen v acts.Await = IsNewestComplete tree v
IsActMet tree seen v acts.Wait = AreChildrenComplete tree v
IsActMet tree seen v (acts.WaitOn ranges) = (c : ℕ) → in_clauses (declared_on waited_for ranges) c ≡ true → AreChildrenDone seen.opens seen.given v c
IsActMet tree seen v _ = Unit {0}

-- A task with this body may make its next act.
pub record MayGoOn (b : Body) (tree : List TreeTask) (seen : Seen) (v : ℕ) : Type 0 where
  pub running : is_over b ≡ false
  pub goes : goes_on (pending_of b) ≡ true
  pub met : has_begun b ≡ false → (v ≡ 0) ⊎ IsMet seen.opens seen.given v
  pub waits : IsActMet tree seen v (pending_of b)

-- The next act of the task may be made.
pub record MayStep (tasks : List Held) (tree : List TreeTask) (seen : Seen) (v : ℕ) : Type 0 where
  pub held : Held
  pub is : slice_get tasks v ≡ Some held
  pub goes : MayGoOn held.body tree seen v

-- The task has ended, and its clause wait is met.
pub record IsThrough (tree : List TreeTask) (v : ℕ) (b : Body) : Type 0 where
  pub over : is_over b ≡ true
  pub wait : has_wait b ≡ true → AreChildrenComplete tree v

-- The task was opened with a reduction of the cell by this operator.
pub record IsFoldOf (opens : List Open) (v c : ℕ) (op : Op) : Type 0 where
  pub opened : HasOpened opens c v
  pub mode : mode_in opens c v ≡ Fold op

-- A task that is kept so may give up the cell by a let.
pub record MayGive (held : Held) (tree : List TreeTask) (v c : ℕ) : Type 0 where
  pub owes : value_at held.owed.pieces c ≡ Some owed.Let
  pub gone : (released_by held.body c ≡ true) ⊎ IsThrough tree v held.body

-- The task may give up the cell by a let.
pub record MayLet (tasks : List Held) (tree : List TreeTask) (v c : ℕ) : Type 0 where
  pub held : Held
  pub is : slice_get tasks v ≡ Some held
  pub gives : MayGive held tree v c

-- The slot of a task that is kept so may be joined into the cell.
pub record MayFold (held : Held) (tree : List TreeTask) (seen : Seen) (v c : ℕ) (op : Op) : Type 0 where
  pub owes : value_at held.owed.pieces c ≡ Some (owed.Join op)
  pub through : IsThrough tree v held.body
  pub satisfied : IsJoinSatisfied (opened_forest seen.opens seen.given c) op v

-- The slot of the task may be joined into the cell.
pub record MayJoin (tasks : List Held) (tree : List TreeTask) (seen : Seen) (v c : ℕ) (op : Op) : Type 0 where
  pub held : Held
  pub is : slice_get tasks v ≡ Some held
  pub folds : MayFold held tree seen v c op

-- A task that is kept so may make its next act, give up a cell, or have a slot joined.
pub data MayAnything (held : Held) (tree : List TreeTask) (seen : Seen) (v : ℕ) : Type 0 where
  goes : MayGoOn held.body tree seen v → MayAnything held tree seen v
  gives : (c : ℕ) → MayGive held tree v c → MayAnything held tree seen v
  folds : (c : ℕ) (op : Op) → MayFold held tree seen v c op → MayAnything held tree seen v
