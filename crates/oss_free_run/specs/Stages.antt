-- A stage of the free run as it is kept: the task that acts, those that wait for it, and memory; and what a turn makes of it.
-- Read against: a main that creates a task without clauses, which stores 1 in x, and then loads x. Behind the creation the task acts, and main waits for it. Behind its store cell x has 1, and
-- behind its end main acts, which first ends its wait and then loads the 1.
use Rattle.std.specs.Prelude.{◌≡◌, ◌<◌, ◌≤◌, ℕ, ◌+◌, ◌*◌, suc, ◌||◌, List, [], ◌∷◌, ◌++◌, length, map, reverse}
use Rattle.oss_syntax.specs.declared.fault.FaultKind.{FaultKind}
use Rattle.oss_model.specs.Bodies.{Ask, Frame, Order}
use Rattle.oss_model.specs.Bodies.Act.{Fault}
use Rattle.oss_model.specs.Context.{Context}
use Rattle.oss_model.specs.Moves.{act_now, found_by, opening}
use Rattle.oss_model.specs.Potential.{share_of}
use Rattle.oss_model.specs.Sequence.{IsAtEnd, RunsOn}
use Rattle.oss_code.specs.declared.code.CodeParts.{CodeParts}
use Rattle.oss_machine.specs.Frames.{CodeScript}
use Rattle.oss_machine.specs.Machines.{most_left, room}
use Rattle.oss_free_tasks.specs.OpenTasks.{AreNested, Ends, Stands, behind}
use Rattle.oss_free_run.specs.declared.run.FreeRun.{FreeRun}
use Rattle.oss_free_run.specs.declared.run.Turned.{Turned}
use Rattle.oss_free_run.specs.declared.run.Turned.TheVariants as turned
use Rattle.oss_free_run.specs.declared.task.FreeTask.{FreeTask}
use Rattle.oss_free_run.specs.FreeTasks.{created_task, free_main, free_program, new_task, resumed_task, seen, settled_task}

-- The kept stage is one of the free run of the code, with this much fuel for each task: these are its open tasks.
pub record IsStage (code : CodeParts) (fuel : ℕ) (r : FreeRun) : Type 0 where
  pub few : length code.first ≤ 1048576
  -- the task that acts
  pub task : Frame CodeScript
  -- those that wait for it, the newest first
  pub older : List (Frame CodeScript)
  pub stands : Stands (free_program code) (free_main code fuel) code.first (task ∷ older) r.cells.items
  pub nested : AreNested fuel (task ∷ older)
  pub fuel_is : r.fuel ≡ fuel
  pub current : r.current ≡ seen code task
  pub above : reverse r.above ≡ map (seen code) older

-- The kept stage is the first one of the run.
pub record IsFirstStage (code : CodeParts) (fuel : ℕ) (r : FreeRun) : Type 0 where
  pub stage : IsStage code fuel r
  pub opens : stage.stands.stage ≡ record { state = opening (free_main code fuel) code.first; active = []; printed = [] }

-- What is left to do

-- No function of the code makes more steps before an ask, and no body asks for more things between two ticks.
abbrev pub most_room : CodeParts → ℕ
most_room code = most_left code * suc (suc (most_left code))

abbrev pub most_asks : CodeParts → ℕ
most_asks code = 513 * suc (most_room code) + most_room code

-- the counts of a task with this fuel at this depth
abbrev pub counts_of : ℕ → ℕ → FreeTask → Context
counts_of fuel depth k = record { entries = []; ticks = k.ticks; fuel = fuel; created = k.created; depth = depth; final = k.last }

-- What a task counts for: by its fuel and its depth, by the room of its machine, and by whether it awaits one.
abbrev pub task_left : CodeParts → ℕ → ℕ → FreeTask → ℕ
task_left code fuel depth k = share_of (most_asks code) (room code k.machine.stands.config) (counts_of fuel depth k) k.awaits

-- what open tasks count for together, the newest first
abbrev pub tasks_left : CodeParts → ℕ → List FreeTask → ℕ
tasks_left code fuel [] = 0
tasks_left code fuel (k ∷ ks) = task_left code fuel (length ks) k + tasks_left code fuel ks

-- What is left to do at a stage: a number that falls with each turn.
abbrev pub run_left : CodeParts → FreeRun → ℕ
run_left code r = tasks_left code r.fuel (r.current ∷ reverse r.above)

-- The stage behind a stage of the run: an act of the task that acts leads there, the open tasks are those behind it, and there is less left to do.
pub record IsNext (code : CodeParts) (fuel : ℕ) (old : FreeRun) (was : IsStage code fuel old) (new : FreeRun) : Type 0 where
  pub stage : IsStage code fuel new
  pub runs : RunsOn (free_program code) was.stands.stage stage.stands.stage
  pub tasks : behind (free_program code) (act_now (free_program code) was.stands.body) (found_by (act_now (free_program code) was.stands.body) old.cells.items) (was.task ∷ was.older) ≡ stage.task ∷ stage.older
  pub less : run_left code new < run_left code old

-- The run is at its end: the task that acts stands before a fault of this kind, on this line. The stage stays.
pub record IsFailed (code : CodeParts) (fuel : ℕ) (old : FreeRun) (was : IsStage code fuel old) (new : FreeRun) (kind : FaultKind) (line : ℕ) : Type 0 where
  pub key : List ℕ
  pub end : IsAtEnd (free_program code) was.stands.stage
  pub fault : act_now (free_program code) end.task.body ≡ Fault kind line key
  pub stays : new ≡ old

-- What a turn makes of a stage: the next one; or an act leads to the end, where main has ended; or the stage stands before a fault.
abbrev pub IsTurned : (code : CodeParts) (fuel : ℕ) (old : FreeRun) → IsStage code fuel old → FreeRun → Turned → Type 0
IsTurned code fuel old was new turned.On = IsNext code fuel old was new
IsTurned code fuel old was new turned.Ended = Ends (free_program code) (free_main code fuel) code.first was.stands.stage new.cells.items
IsTurned code fuel old was new (turned.Failed kind line) = IsFailed code fuel old was new kind line

-- Parts of a turn

-- all but the tasks is as it was
pub record IsBeside (old new : FreeRun) : Type 0 where
  pub cells : new.cells.items ≡ old.cells.items
  pub fuel_is : new.fuel ≡ old.fuel

-- The creator goes on behind the end of the task that acts.
pub record IsBack (code : CodeParts) (old new : FreeRun) : Type 0 where
  pub creator : FreeTask
  pub above : old.above ≡ new.above ++ creator ∷ []
  pub current : new.current ≡ resumed_task code (length new.above) creator
  pub beside : IsBeside old new

-- That is so, or there is none.
abbrev pub IsUp : CodeParts → FreeRun → FreeRun → Turned → Type 0
IsUp code old new turned.On = IsBack code old new
IsUp code old new turned.Ended = IsBeside old new × (old.above ≡ [])
IsUp code old new (turned.Failed kind line) = ⊥

-- The task waits for the one that it has created, which acts.
pub record IsDown (code : CodeParts) (old new : FreeRun) : Type 0 where
  pub child : (o : Order CodeScript) → old.current.machine.stands.asked.ask ≡ Ask.Create o
      → new.current ≡ settled_task code (length old.above + 1) (new_task code (old.current.last || o.last) o.script)
  pub above : new.above ≡ old.above ++ created_task code (length old.above) old.current ∷ []
  pub beside : IsBeside old new
