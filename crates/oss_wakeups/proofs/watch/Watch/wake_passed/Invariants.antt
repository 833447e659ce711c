use Rattle.std.proofs.Common.{take}
use Rattle.oss_wakeups.specs.Watches.{IsAbovePassed}
use Rattle.oss_wakeups.specs.Watching.{HasWoken}
use Rattle.oss_wakeups.proofs.watch.Watch.wake_passed.Given as goal

-- those that watch a task above one of those so far were woken
abbrev pub invariant-loop-one : goal.invariant-loop-one
invariant-loop-one l = HasWoken (IsAbovePassed l.tree.tasks (take l.one-index l.passed)) l.initial.self l.self
