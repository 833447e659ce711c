-- What stands in the way of a task, so that it need not be asked again as long as that does.
-- Read against: the tasks 1, 2 and 3 with inout(a), and a child 4 of task 2 with out(a). Task 2 hinders task 3, and so does task 1;
-- task 1 hinders task 2, and task 4 with it. Once task 1 has given up a, it hinders nobody. Task 4 is a child of task 2 that is not done,
-- and stays so when task 1 gives up a, since 1 is neither 4 nor below it. Task 4 is below task 2, so what 4 gives up may end
-- that task 2 hinders task 3.
use Rattle.std.specs.Prelude.{◌≡◌, ℕ, ◌≤◌, ◌<◌, Bool, true, List, ◌++◌}
use Rattle.oss_model.specs.Order.{IsIn}
use Rattle.oss_model.specs.Forest.{IsDone}
use Rattle.oss_deps.specs.declared.opened.Open.{Open}
use Rattle.oss_deps.specs.Opens.{AreOpens, HasOpened, IsMet, names, opened_forest}

-- The access of the task u to a cell is not done, and while it is not, whatever is opened and given up, the task t may not begin.
pub record Hinders (opens : List Open) (given : ℕ → ℕ → Bool) (t u : ℕ) : Type 0 where
  pub cell : ℕ
  pub opened : HasOpened opens cell u
  pub undone : IsDone (opened_forest opens given cell) u → ⊥
  pub bars : (more : List Open) (later : ℕ → ℕ → Bool) → AreOpens (opens ++ more) → (IsDone (opened_forest (opens ++ more) later cell) u → ⊥) → IsMet (opens ++ more) later t → ⊥

-- A child of the task t has an access to a cell of the range that is not done.
pub record HasUndoneChild (opens : List Open) (given : ℕ → ℕ → Bool) (t lo hi u : ℕ) : Type 0 where
  pub cell : ℕ
  pub from : lo ≤ cell
  pub before : cell < hi
  pub entry : Open
  pub listed : IsIn entry opens
  pub number : entry.task ≡ u
  pub parent : entry.parent ≡ t
  pub named : names cell entry ≡ true
  pub undone : IsDone (opened_forest opens given cell) u → ⊥

-- The task v is u, or a child of a task of which this is so.
pub data IsAtOrBelow (opens : List Open) (u : ℕ) : ℕ → Type 0 where
  same : {v : ℕ} → v ≡ u → IsAtOrBelow opens u v
  under : {v : ℕ} (o : Open) → IsIn o opens → o.task ≡ v → IsAtOrBelow opens u o.parent → IsAtOrBelow opens u v
