use Rattle.oss_serial.specs.Stages.{left_at}
use Rattle.oss_explain.specs.Noting.{IsFollowing}
use Rattle.oss_explain.proofs.run.follow.Given as goal

-- what is noted follows the run
abbrev pub invariant-turns : goal.invariant-turns
invariant-turns l = IsFollowing l.code l.fuel l.stage l.ledger

-- what is left to do falls with each turn
abbrev pub decreases-turns : goal.decreases-turns
decreases-turns l = left_at l.code l.stage
