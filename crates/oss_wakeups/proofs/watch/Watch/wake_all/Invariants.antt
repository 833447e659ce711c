use Rattle.std.proofs.Common.{take}
use Rattle.oss_wakeups.specs.Watching.{HasWokenOf}
use Rattle.oss_wakeups.proofs.watch.Watch.wake_all.Given as goal

-- the tasks so far were woken
abbrev pub invariant-loop-task : goal.invariant-loop-task
invariant-loop-task l = HasWokenOf (take l.task-index l.waiting) l.initial.self l.self
