use Rattle.oss_wakeups.specs.Watching.{HasGrown}
use Rattle.oss_wakeups.proofs.watch.Watch.grow.Given as goal

-- the new tasks so far are awake
abbrev pub invariant-loop-number : goal.invariant-loop-number
invariant-loop-number l = HasGrown l.number l.initial.self l.self
