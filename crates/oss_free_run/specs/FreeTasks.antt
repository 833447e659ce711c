-- How an open task of the free run is kept: of its answers the machine alone, and of its context the counts. All tasks have the same rights, so none is kept.
-- Read against: of a task with 2 ticks done that has created one task, the machine behind its answers, 2 and 1. Behind a creation it has 2 and 2, and awaits the new task; if it is
-- final it awaits none.
use Rattle.std.specs.Prelude.{ℕ, ◌+◌, ◌-◌, Bool, true, false, not, ◌||◌, if◌then◌else◌, nat_le, [], pos, length}
use Rattle.oss_model.specs.Agreement.{main_start}
use Rattle.oss_model.specs.Bodies.{Ask, Frame, Order, Program, Start}
use Rattle.oss_code.specs.declared.code.CodeParts.{CodeParts}
use Rattle.oss_machine.specs.Frames.{CodeScript}
use Rattle.oss_machine.specs.Machines.{asks, machine_after, machine_at, machine_start, poised}
use Rattle.oss_freed.specs.Freed.{freed}
use Rattle.oss_free_run.specs.declared.task.FreeTask.{FreeTask}

-- The code as a program without its clauses.
abbrev pub free_program : CodeParts → Program CodeScript
free_program code = freed (length code.first) (asks code)

-- what main is to run: it begins at the first instruction, and no clause says anything of it
abbrev pub main_order : Order CodeScript
main_order = record { script = record { entry = 0; copies = [] }; clauses = []; when = true; last = false; wait = false; priority = pos 0 }

-- How main starts, with this much fuel.
abbrev pub free_main : CodeParts → ℕ → Start CodeScript
free_main code fuel = main_start main_order (length code.first) fuel

-- an open task of the definitions as it is kept
abbrev pub seen : CodeParts → Frame CodeScript → FreeTask
seen code f = record { machine = poised (machine_at code f.script f.answers); ticks = f.context.ticks; created = f.context.created; last = f.context.final; awaits = f.awaits }

-- a task that has done nothing, final or not
abbrev pub new_task : CodeParts → Bool → CodeScript → FreeTask
new_task code last s = record { machine = poised (machine_start code s); ticks = 0; created = 0; last = last; awaits = false }

-- a task with one more answer
abbrev pub went_on : CodeParts → ℕ → FreeTask → FreeTask
went_on code v k = record k { machine = poised (machine_after code v k.machine.stands) }

-- A task that stands so deep and has created so many may create one more.
abbrev pub may_create : ℕ → ℕ → Bool
may_create depth created = not (nat_le 64 depth || nat_le 65535 created)

-- The ask is no act of a task that may create one or not, and awaits one or not.
abbrev pub is_silent : Bool → Bool → Ask CodeScript → Bool
is_silent begins awaits Ask.Begin = begins
is_silent begins awaits Ask.Await = not awaits
is_silent begins awaits _ = false

-- a task at this depth that has passed its ask, if that is no act
abbrev pub past_task : CodeParts → ℕ → FreeTask → FreeTask
past_task code depth k = if is_silent (may_create depth k.created) k.awaits k.machine.stands.asked.ask then went_on code 0 k else k

-- a task before its next act: two asks that are none stand in a row at most
abbrev pub settled_task : CodeParts → ℕ → FreeTask → FreeTask
settled_task code depth k = past_task code depth (past_task code depth k)

-- a task that has created one more
abbrev pub more_created : FreeTask → FreeTask
more_created k = record k { created = k.created + 1 }

-- The task goes on behind a creation: one that is not final awaits the new task.
abbrev pub created_task : CodeParts → ℕ → FreeTask → FreeTask
created_task code depth k =
    if k.last then went_on code 0 (more_created k) else settled_task code depth (record (went_on code 0 (more_created k)) { awaits = true })

-- a task behind the end of the one that it created last
abbrev pub resumed_task : CodeParts → ℕ → FreeTask → FreeTask
resumed_task code depth k = if k.last then settled_task code depth k else k

-- main before its first act
abbrev pub first_task : CodeParts → FreeTask
first_task code = settled_task code 0 (new_task code false main_order.script)

-- the number of the task that this one created last
abbrev pub newest : FreeTask → ℕ
newest k = k.created - 1
