use Rattle.oss_wakeups.specs.Watching.{HasWoken, IsPassed}
use Rattle.oss_wakeups.proofs.WakingLemmas.{IsThere, levels_left}
use Rattle.oss_wakeups.proofs.watch.Watch.wake_above.Given as goal

-- those that watch a task on the way so far were woken
abbrev pub invariant-levels : goal.invariant-levels
invariant-levels l = record {
  woken : HasWoken (IsPassed l.tree.tasks l.fn.task.0 l.next) l.initial.self l.self;
  there : IsThere l.tree.tasks l.next;
}

abbrev pub decreases-levels : goal.decreases-levels
decreases-levels l = levels_left l.next
