-- How many entries a table of entries over a state needs.
-- Main has one, and each other task has one of its own and one for each of its cells, those that it has given up too: a child of the task may still
-- touch a cell that the task has given up, and hangs below the task's entry there.
-- Read against: main has created a task with the cells 4 and 5, which has created one with the cell 5. The entries are main's, three of the first task
-- and two of the second, so a table over the state needs 6. It needs as many after both have ended and given up all cells.
use Rattle.std.specs.Prelude.{◌≡◌, ◌≤◌, ℕ, ◌+◌, ◌↔◌, List, [], ◌∷◌, Some, slice_get}
use Rattle.oss_machine.specs.Frames.{CodeScript}
use Rattle.oss_model.specs.Context.{right_of}
use Rattle.oss_model.specs.Machine.{Task, State, At}
use Rattle.oss_model.specs.Order.{IsIn}
use Rattle.oss_roles.specs.Numbers.{cells_below}

-- The task has so many cells: no program has a cell from 1,048,576 on.
abbrev pub HasCells : Task CodeScript → ℕ → Type 0
HasCells t n = (c : ℕ) → 1048576 ≤ c → cells_below (right_of t.body.start.context) c ≡ n

-- These tasks, none of which is main, have so many entries together.
pub data HaveEntries : List (Task CodeScript) → ℕ → Type 0 where
  none : HaveEntries [] 0
  more : {t : Task CodeScript} {rest : List (Task CodeScript)} {cells entries : ℕ} → HasCells t cells → HaveEntries rest entries
      → HaveEntries (t ∷ rest) (1 + cells + entries)

-- The tasks are those of the state but main, each once.
pub record AreOthers (s : State CodeScript) (tasks : List (Task CodeScript)) : Type 0 where
  pub exact : (t : Task CodeScript) → (IsIn t tasks ↔ ((k : ℕ) × (p : List ℕ) × At s (k ∷ p) t))
  pub once : (i j : ℕ) (t u : Task CodeScript) → slice_get tasks i ≡ Some t → slice_get tasks j ≡ Some u → t.body.start.path ≡ u.body.start.path → i ≡ j

-- A table over the state needs so many entries.
pub record IsNeeded (s : State CodeScript) (n : ℕ) : Type 0 where
  pub others : List (Task CodeScript)
  pub are : AreOthers s others
  pub entries : ℕ
  pub have : HaveEntries others entries
  pub count : n ≡ 1 + entries
