-- A stage of the sequential run behind a rush of the body that runs: ticks, loads and stores, each of which is a turn.
-- Read against: a main that counts to 3 in a loop over a local comes from its first tick to its end in one rush.
use Rattle.std.specs.Prelude.{ℕ, ◌≤◌, List}
use Rattle.oss_model.specs.Bodies.{Start}
use Rattle.oss_code.specs.declared.code.CodeParts.{CodeParts}
use Rattle.oss_machine.specs.Frames.{CodeScript}
use Rattle.oss_serial.specs.declared.stage.Stage.{Stage}
use Rattle.oss_serial.specs.Stages.{IsStage, left_at}

-- The stage is one of the run again, and no more is left to do.
pub record IsFurther (code : CodeParts) (main : Start CodeScript) (first : List ℕ) (old new : Stage) : Type 0 where
  pub stage : IsStage code main first new
  pub less : left_at code new ≤ left_at code old
