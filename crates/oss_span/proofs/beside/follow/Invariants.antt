use Rattle.oss_serial.specs.Stages.{left_at}
use Rattle.oss_span.proofs.BesideLemmas.{IsBeside}
use Rattle.oss_span.proofs.beside.follow.Given as goal

-- the pass stands beside the run
abbrev pub invariant-turns : goal.invariant-turns
invariant-turns l = IsBeside l.code l.fuel l.stage l.pass

-- what is left to do falls with each turn
abbrev pub decreases-turns : goal.decreases-turns
decreases-turns l = left_at l.code l.stage
