use Rattle.oss_model.specs.Agreement.{Setting}
use Rattle.oss_body.specs.Mains.{code_main}
use Rattle.oss_serial.specs.Stages.{IsStage, left_at}
use Rattle.oss_serial.proofs.run.serial.Given as goal

-- the stage is one of the run
abbrev pub invariant-turns : goal.invariant-turns
invariant-turns l = Setting (code_main l.code l.fuel) l.code.first × IsStage l.code (code_main l.code l.fuel) l.code.first l.stage

-- what is left to do falls with each turn
abbrev pub decreases-turns : goal.decreases-turns
decreases-turns l = left_at l.code l.stage
