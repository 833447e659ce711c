use Rattle.std.proofs.Common.{take}
use Rattle.oss_open_needs.specs.Opening.{OpenWith, waits}
use Rattle.oss_open_needs.proofs.open_task.OpenTask.wait.Given as goal

-- the ranges so far are named
abbrev pub invariant-loop-range : goal.invariant-loop-range
invariant-loop-range l = OpenWith (waits (take l.range-index l.named)) l.fn.self l.self
