-- The turns of the sequential run: one act of the body that runs, the bodies above it waiting for it.
-- Read against: where main has created a task with the clause `out(x)`, whose body stands before its store, main waits for it with one answer more than it
-- had at the creation, there are two tasks, and behind the end of the task main runs again.
use Rattle.std.specs.Prelude.{◌≡◌, ℕ, false, List, [], ◌∷◌, reverse}
use Rattle.oss_model.specs.Bodies.{Body, Program, Start}
use Rattle.oss_model.specs.Machine.{At, State, Task}
use Rattle.oss_model.specs.Bodies.Act.{Over}
use Rattle.oss_model.specs.Moves.{act_now, is_ended, opening}
use Rattle.oss_model.specs.Sequence.{IsAtEnd, Running, RunsOn, Sequential}
use Rattle.oss_meaning.specs.Results.{tasks_in}

-- a task that has given up nothing, as all tasks of the sequential run
abbrev pub whole_task : {S : Type 0} → Body S → Task S
whole_task b = record { body = b; given = [] }

-- a body after one more answer
abbrev pub answered : {S : Type 0} → ℕ → Body S → Body S
answered v b = record { start = b.start; found = v ∷ b.found }

-- These bodies, the newest first, wait for the task at this path: each is the creator of the one before it, and main is the last.
abbrev pub AreWaiting : {S : Type 0} → Program S → State S → List (Body S) → List ℕ → Type 0
AreWaiting P s [] path = path ≡ []
AreWaiting P s (b ∷ older) path =
    (k : ℕ) × (path ≡ k ∷ b.start.path) × At s b.start.path (whole_task b) × (is_ended P b ≡ false) × AreWaiting P s older b.start.path

-- The run has come to a stage at which this body runs, those above it, the oldest first, wait for it, and memory, output and the number of tasks are these.
pub record Stands {S : Type 0} (P : Program S) (main : Start S) (first : List ℕ) (current : Body S) (above : List (Body S)) (cells output : List ℕ) (tasks : ℕ) : Type 0 where
  pub stage : Running S
  pub run : Sequential P main first stage
  pub cells_are : stage.state.cells ≡ cells
  pub output_is : stage.printed ≡ output
  pub tasks_are : tasks_in stage.state ≡ tasks
  pub path : stage.active ≡ current.start.path
  pub at_ : At stage.state stage.active (whole_task current)
  pub alive : is_ended P current ≡ false
  pub waiting : AreWaiting P stage.state (reverse above) stage.active

-- The run is at its beginning, and this body runs there, and the rest is so.
pub record Begins {S : Type 0} (P : Program S) (main : Start S) (first : List ℕ) (current : Body S) (above : List (Body S)) (cells output : List ℕ) (tasks : ℕ) : Type 0 where
  pub stands : Stands P main first current above cells output tasks
  pub opens : stands.stage ≡ record { state = opening main first; active = []; printed = [] }

-- An act leads from this stage of the run to the one at which this body runs, and the rest is so.
pub record Goes {S : Type 0} (P : Program S) (main : Start S) (first : List ℕ) (z : Running S) (current : Body S) (above : List (Body S)) (cells output : List ℕ) (tasks : ℕ) : Type 0 where
  pub stands : Stands P main first current above cells output tasks
  pub runs : RunsOn P z stands.stage

-- An act leads from this stage of the run to its end: main has ended, and memory, output and the number of tasks are these.
pub record Ends {S : Type 0} (P : Program S) (main : Start S) (first : List ℕ) (z : Running S) (cells output : List ℕ) (tasks : ℕ) : Type 0 where
  pub stage : Running S
  pub run : Sequential P main first stage
  pub runs : RunsOn P z stage
  pub at_main : stage.active ≡ []
  pub end : IsAtEnd P stage
  pub over : act_now P end.task.body ≡ Over
  pub cells_are : stage.state.cells ≡ cells
  pub output_is : stage.printed ≡ output
  pub tasks_are : tasks_in stage.state ≡ tasks
