use Rattle.oss_serial.specs.Stages.{left_at}
use Rattle.oss_graph.specs.Following.{IsFollowing}
use Rattle.oss_graph.proofs.run.follow.Given as goal

-- what is found follows the run
abbrev pub invariant-turns : goal.invariant-turns
invariant-turns l = IsFollowing l.code l.fuel l._program.items l.stage l.found

-- what is left to do falls with each turn
abbrev pub decreases-turns : goal.decreases-turns
decreases-turns l = left_at l.code l.stage
