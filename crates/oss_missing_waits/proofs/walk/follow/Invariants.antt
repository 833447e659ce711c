use Rattle.oss_free_run.specs.Stages.{run_left}
use Rattle.oss_missing_waits.specs.Beside.{IsBeside}
use Rattle.oss_missing_waits.proofs.walk.follow.Given as goal

-- what is kept follows the run
abbrev pub invariant-turns : goal.invariant-turns
invariant-turns l = IsBeside l.layout l.tasks l.code l.fuel l.run l.following

-- what is left to do falls with each turn
abbrev pub decreases-turns : goal.decreases-turns
decreases-turns l = run_left l.code l.run
