-- The sequential run: one thread, and each body runs where it is created.
-- It is what the program means (C11 5.1.2.3, with each touch judged by the directives of OmpSs-2).
-- The tasks above the one that runs wait for it; every fold goes straight to memory.
-- Read against: a main that creates a task out(x), x = 5, and a task in(x) out(y), y = x + 1, waits and prints
-- y: 6.
use Rattle.std.specs.Prelude.{◌≡◌, ℕ, false, if◌then◌else◌, List, [], ◌∷◌, ◌++◌, slice_index, slice_set}
use Rattle.oss_model.specs.Bodies.{Program, Act, Start, IsHalt}
use Rattle.oss_model.specs.Bodies.Act.{Store, Folded, Created, Printed}
use Rattle.oss_model.specs.Machine.{Task, State, At}
use Rattle.oss_model.specs.Moves.{combine, act_now, created_now, is_ended, after_answer, opening, found_by, TaskStep}

-- A stage of the run: the tasks as they stand, the path of the one that runs, and the output.
pub record Running (S : Type 0) : Type 0 where
  pub state : State S
  -- the tasks above it wait for it
  pub active : List ℕ
  -- the texts of the prints so far, in the order in which they were made
  pub printed : List ℕ

-- The memory after an act of the run.
abbrev pub direct_cells : {S : Type 0} → Act S → List ℕ → List ℕ
direct_cells (Store c v) cells = slice_set cells c v
direct_cells (Folded c op v slot) cells = slice_set cells c (combine op (slice_index cells c) v)
direct_cells _ cells = cells

-- The output after an act.
abbrev pub printed_after : {S : Type 0} → Act S → List ℕ → List ℕ
printed_after (Printed key text) output = output ++ text
printed_after _ output = output

-- The path of the creator. Main's is main's own.
abbrev pub path_above : List ℕ → List ℕ
path_above [] = []
path_above (k ∷ p) = p

-- The path of the task that runs after an act of the task at p: a creation goes down to the new task, an end up
-- to the creator.
abbrev pub active_after : {S : Type 0} → Program S → Task S → List ℕ → ℕ → Act S → List ℕ
active_after P t p v (Created o false) = created_now P t.body ∷ p
active_after P t p v act = if is_ended P (after_answer v t).body then path_above p else p

-- The run goes on from one stage to the next by an act of the task that runs.
pub record RunsOn {S : Type 0} (P : Program S) (z y : Running S) : Type 0 where
  pub task : Task S
  pub at_ : At z.state z.active task
  pub goes : IsHalt (act_now P task.body) → ⊥
  pub tasks : TaskStep P z.state z.active task (found_by (act_now P task.body) z.state.cells) y.state
  pub cells : y.state.cells ≡ direct_cells (act_now P task.body) z.state.cells
  pub active : y.active ≡ active_after P task z.active (found_by (act_now P task.body) z.state.cells) (act_now P task.body)
  pub printed : y.printed ≡ printed_after (act_now P task.body) z.printed

-- The run comes to this stage.
pub data Sequential {S : Type 0} (P : Program S) (main : Start S) (cells : List ℕ) : Running S → Type 0 where
  opens : Sequential P main cells (record { state = opening main cells; active = []; printed = [] })
  runs_on : {z y : Running S} → Sequential P main cells z → RunsOn P z y → Sequential P main cells y

-- The run is at its end: main has ended, or the task that runs stands before a fault.
pub record IsAtEnd {S : Type 0} (P : Program S) (z : Running S) : Type 0 where
  pub task : Task S
  pub at_ : At z.state z.active task
  pub stops : IsHalt (act_now P task.body)
