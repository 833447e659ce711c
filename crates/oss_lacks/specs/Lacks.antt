-- What the clauses of each task lack, as the free run shows it.
-- Read against: of a main that creates a task with `in(x)`, which stores into x, one task is told of, at the point 0.0, with the lack of `out(x)`. If it divides by 0 behind the store, the same is told, and the fault.
use Rattle.std.specs.Prelude.{◌≡◌, ℕ, List, [], ◌∷◌, Option, Some, None}
use Rattle.oss_model.specs.Bodies.{Program}
use Rattle.oss_model.specs.Bodies.Act.{Fault, Over}
use Rattle.oss_model.specs.Moves.{act_now}
use Rattle.oss_model.specs.Order.{written}
use Rattle.oss_model.specs.Sequence.{IsAtEnd, Running}
use Rattle.oss_code.specs.declared.code.CodeParts.{CodeParts}
use Rattle.oss_machine.specs.Frames.{CodeScript}
use Rattle.oss_machine.specs.Machines.{asks}
use Rattle.oss_needs.specs.Givens.{given_of}
use Rattle.oss_task_needs.specs.Mends.{IsMending}
use Rattle.oss_free_run.specs.FreeTasks.{free_main, free_program}
use Rattle.oss_missing_lines.specs.declared.missing.RunFault.{RunFault}
use Rattle.oss_lacks.specs.declared.lacks.Lacks.{Lacks}
use Rattle.oss_lacks.specs.declared.lacks.TaskLacks.{TaskLacks}
use Rattle.oss_lacks.specs.Asking.{Asking}
use Rattle.oss_lacks.specs.Nests.{Nest}
use Rattle.oss_lacks.specs.Walks.{Walks, at_stop}

-- This is told of this task.
pub record IsTaskLacks (t : Asking) (k : TaskLacks) : Type 0 where
  pub point : k.task ≡ written t.path
  pub line : k.line ≡ t.line
  pub clauses : k.clauses ≡ t.clauses
  pub final : k.is_final ≡ t.final
  pub mending : IsMending (given_of t.final t.clauses) t.asked k.mending

-- These are told of these tasks, one by one, all of which have ended.
abbrev pub AreTaskLacks : List (Option Asking) → List TaskLacks → Type 0
AreTaskLacks [] [] = Unit {0}
AreTaskLacks (Some t ∷ ts) (k ∷ ks) = IsTaskLacks t k × AreTaskLacks ts ks
AreTaskLacks _ _ = ⊥

-- How a run ended: main has ended, or the task that acts stands before this fault.
abbrev pub IsStop : {S : Type 0} (P : Program S) (z : Running S) → IsAtEnd P z → Option RunFault → Type 0
IsStop P z end None = act_now P end.task.body ≡ Over
IsStop P z end (Some f) = (key : List ℕ) × (act_now P end.task.body ≡ Fault f.kind f.line key)

-- The free run of the code, with this much fuel for each task, comes to this end, and this is known of its tasks there.
pub record IsWalked (code : CodeParts) (fuel : ℕ) (n : Nest Asking) (fault : Option RunFault) : Type 0 where
  pub stage : Running CodeScript
  pub walks : Walks (asks code) (free_main code fuel) code.first stage n
  pub end : IsAtEnd (free_program code) stage
  pub stop : IsStop (free_program code) stage end fault

-- What the clauses lack of the tasks of the code, in order of creation.
pub record IsLacks (code : CodeParts) (fuel : ℕ) (l : Lacks) : Type 0 where
  pub nest : Nest Asking
  pub walked : IsWalked code fuel nest l.fault
  pub tasks : AreTaskLacks (at_stop nest).ended l.tasks
