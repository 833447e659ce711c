-- What is kept beside the free run on the second walk is right at its stage.
-- Read against: before the first act of a main that reads x, nothing is lent, and so it is kept. Before a fault nothing is noted.
use Rattle.std.specs.Prelude.{◌≡◌, ℕ, List, [], ◌∷◌}
use Rattle.oss_syntax.specs.declared.tree.program.Item.{Item}
use Rattle.oss_model.specs.Bodies.{Frame, IsHalt}
use Rattle.oss_model.specs.Moves.{act_now}
use Rattle.oss_model.specs.Sequence.{IsAtEnd, Running}
use Rattle.oss_code.specs.declared.code.CodeParts.{CodeParts}
use Rattle.oss_machine.specs.Frames.{CodeScript}
use Rattle.oss_machine.specs.Machines.{asks}
use Rattle.oss_pieces.specs.Layouts.{grids_from}
use Rattle.oss_pieces.specs.Rows.{Grid}
use Rattle.oss_free_run.specs.declared.run.FreeRun.{FreeRun}
use Rattle.oss_free_run.specs.FreeTasks.{free_main, free_program}
use Rattle.oss_free_run.specs.Stages.{IsStage}
use Rattle.oss_lacks.specs.declared.lacks.TaskLacks.{TaskLacks}
use Rattle.oss_lacks.specs.Nests.{Nest, Numbered}
use Rattle.oss_missing_waits.specs.declared.following.Following.{Following}
use Rattle.oss_missing_waits.specs.declared.waits.TaskWaits.{TaskWaits}
use Rattle.oss_missing_waits.specs.Following.{AreSaid, IsFollowing}
use Rattle.oss_missing_waits.specs.Holding.{Holding}
use Rattle.oss_missing_waits.specs.Lines.{AreLines, AreTaskLines, AreWaits}
use Rattle.oss_missing_waits.specs.Waits.{IsBehind, Mended, Waits, at_stop}

-- What is known is known of these tasks, the one that acts first.
abbrev pub AreNamed : List (Numbered Holding) → List (Frame CodeScript) → Type 0
AreNamed [] [] = Unit {0}
AreNamed (k ∷ ks) (f ∷ fs) = (k.task.path ≡ f.path) × AreNamed ks fs
AreNamed _ _ = ⊥

-- What is known at a stage of the run is kept, over these globals, where the clauses of its tasks are mended so.
pub record IsAt (code : CodeParts) (fuel : ℕ) (r : FreeRun) (s : IsStage code fuel r) (all : List Item) (w : Mended) (k : Following) : Type 0 where
  pub nest : Nest Holding
  pub walks : Waits w (asks code) (free_main code fuel) code.first s.stands.stage nest
  pub named : AreNamed (nest.acting ∷ nest.above) (s.task ∷ s.older)
  pub follows : IsFollowing all w nest k

-- The run stands at a stage, and what is known there is kept, over globals that lie so, by what was found of the clauses of its tasks.
pub record IsBeside (layout : List Grid) (ks : List TaskLacks) (code : CodeParts) (fuel : ℕ) (r : FreeRun) (k : Following) : Type 0 where
  pub stage : IsStage code fuel r
  pub kept : (all : List Item) (w : Mended) → layout ≡ grids_from all 0 → AreSaid w ks → IsAt code fuel r stage all w k

-- If the run goes on from this stage, something that may be known behind the act is kept; else what is known before it.
pub record IsNotedAt (code : CodeParts) (fuel : ℕ) (r : FreeRun) (s : IsStage code fuel r) (all : List Item) (w : Mended) (n : Nest Holding) (new : Following) : Type 0 where
  pub stops : IsHalt (act_now (free_program code) s.stands.body) → IsFollowing all w n new
  pub goes : (IsHalt (act_now (free_program code) s.stands.body) → ⊥) → (m : Nest Holding) × (IsBehind w (asks code) s.task n m × IsFollowing all w m new)

abbrev pub IsNotedBeside : List Grid → List TaskLacks → CodeParts → ℕ → FreeRun → Following → Following → Type 0
IsNotedBeside layout ks code fuel r old new =
    (s : IsStage code fuel r) (all : List Item) (w : Mended) (n : Nest Holding) → layout ≡ grids_from all 0 → AreSaid w ks → AreNamed (n.acting ∷ n.above) (s.task ∷ s.older) → IsFollowing all w n old → IsNotedAt code fuel r s all w n new

-- The run has come to its end, and what is known there is kept.
pub record IsEndedAt (code : CodeParts) (fuel : ℕ) (all : List Item) (w : Mended) (k : Following) : Type 0 where
  pub stage : Running CodeScript
  pub nest : Nest Holding
  pub walks : Waits w (asks code) (free_main code fuel) code.first stage nest
  pub end : IsAtEnd (free_program code) stage
  pub follows : IsFollowing all w nest k

abbrev pub IsEnded : List Grid → List TaskLacks → CodeParts → ℕ → Following → Type 0
IsEnded layout ks code fuel k = (all : List Item) (w : Mended) → layout ≡ grids_from all 0 → AreSaid w ks → IsEndedAt code fuel all w k

-- All that were open have ended, and these are their lines.
pub record IsFinished (k : Following) (l : TaskWaits) : Type 0 where
  pub main : (all : List Item) (w : Mended) (n : Nest Holding) → IsFollowing all w n k → AreLines all (at_stop n).acting.task.told l.main
  pub tasks : (all : List Item) (w : Mended) (n : Nest Holding) → IsFollowing all w n k → AreTaskLines all (at_stop n).ended l.tasks

-- These are the lines of the code, over globals that lie so, by what was found of the clauses of its tasks.
abbrev pub AreFound : List Grid → List TaskLacks → CodeParts → ℕ → TaskWaits → Type 0
AreFound layout ks code fuel l = (all : List Item) (w : Mended) → layout ≡ grids_from all 0 → AreSaid w ks → AreWaits code fuel all w l
