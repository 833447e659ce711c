use Rattle.oss_serial.specs.Stages.{left_at}
use Rattle.oss_span_check.specs.Recording.{IsRecording}
use Rattle.oss_span_check.proofs.run.follow.Given as goal

-- what is kept is right at each stage
abbrev pub invariant-turns : goal.invariant-turns
invariant-turns l = IsRecording l.code l.fuel l.stage l.watch

-- what is left to do falls with each turn
abbrev pub decreases-turns : goal.decreases-turns
decreases-turns l = left_at l.code l.stage
