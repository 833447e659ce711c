-- What is kept beside the free run is right at its stage.
-- Read against: before the first act of a main that stores into x, main is known to have asked nothing, and so it is kept; behind the act it is known, and kept, that main has asked a store of x. Before a fault nothing is noted.
use Rattle.std.specs.Prelude.{◌≡◌, ℕ, Bool, true, false, List, [], ◌∷◌, Option}
use Rattle.oss_model.specs.Bodies.{Frame, IsHalt}
use Rattle.oss_model.specs.Moves.{act_now}
use Rattle.oss_code.specs.declared.code.CodeParts.{CodeParts}
use Rattle.oss_machine.specs.Frames.{CodeScript}
use Rattle.oss_machine.specs.Machines.{asks}
use Rattle.oss_free_tasks.specs.declared.deed.Deed.{Deed}
use Rattle.oss_free_tasks.specs.declared.deed.Deed.TheVariants as deeds
use Rattle.oss_free_run.specs.declared.run.FreeRun.{FreeRun}
use Rattle.oss_free_run.specs.FreeTasks.{free_main, free_program}
use Rattle.oss_free_run.specs.Stages.{IsStage}
use Rattle.oss_missing_lines.specs.declared.missing.RunFault.{RunFault}
use Rattle.oss_lacks.specs.declared.following.Following.{Following}
use Rattle.oss_lacks.specs.declared.lacks.Lacks.{Lacks}
use Rattle.oss_lacks.specs.Asking.{Asking}
use Rattle.oss_lacks.specs.Following.{IsFollowing}
use Rattle.oss_lacks.specs.Lacks.{AreTaskLacks, IsWalked}
use Rattle.oss_lacks.specs.Nests.{Nest, Numbered}
use Rattle.oss_lacks.specs.Walks.{Walks, at_stop, behind}

-- What is known is known of these tasks, the one that acts first.
abbrev pub AreNamed : List (Numbered Asking) → List (Frame CodeScript) → Type 0
AreNamed [] [] = Unit {0}
AreNamed (k ∷ ks) (f ∷ fs) = (k.task.path ≡ f.path) × AreNamed ks fs
AreNamed _ _ = ⊥

-- The run stands at a stage, and what is known there of its open tasks, and of those that have ended, is kept.
pub record IsBeside (code : CodeParts) (fuel : ℕ) (r : FreeRun) (k : Following) : Type 0 where
  pub stage : IsStage code fuel r
  pub nest : Nest Asking
  pub walks : Walks (asks code) (free_main code fuel) code.first stage.stands.stage nest
  pub named : AreNamed (nest.acting ∷ nest.above) (stage.task ∷ stage.older)
  pub follows : IsFollowing nest k

-- The task does what it asks.
abbrev pub goes_on : Deed → Bool
goes_on deeds.Awaits = false
goes_on (deeds.Stops kind line) = false
goes_on _ = true

-- If the run goes on from this stage, what is known behind the act is kept; else what is known before it.
pub record IsNotedAt (code : CodeParts) (fuel : ℕ) (r : FreeRun) (s : IsStage code fuel r) (n : Nest Asking) (new : Following) : Type 0 where
  pub stops : IsHalt (act_now (free_program code) s.stands.body) → IsFollowing n new
  pub goes : (IsHalt (act_now (free_program code) s.stands.body) → ⊥) → IsFollowing (behind (asks code) s.task n) new

abbrev pub IsNoted : CodeParts → ℕ → FreeRun → Following → Following → Type 0
IsNoted code fuel r old new =
    (s : IsStage code fuel r) (n : Nest Asking) → AreNamed (n.acting ∷ n.above) (s.task ∷ s.older) → IsFollowing n old → IsNotedAt code fuel r s n new

-- The run has come to its end, which this fault is, if there is one, and what is known there is kept.
pub record IsEnded (code : CodeParts) (fuel : ℕ) (fault : Option RunFault) (k : Following) : Type 0 where
  pub nest : Nest Asking
  pub walked : IsWalked code fuel nest fault
  pub follows : IsFollowing nest k

-- All that were open have ended, and this is told of them and of the fault.
pub record IsFinished (k : Following) (fault : Option RunFault) (l : Lacks) : Type 0 where
  pub fault_is : l.fault ≡ fault
  pub tasks : (n : Nest Asking) → IsFollowing n k → AreTaskLacks (at_stop n).ended l.tasks
