use Rattle.std.proofs.Common.{◌≡◌, ◌++◌, drop}
use Rattle.oss_core.specs.Cores.{kept_of}
use Rattle.oss_wakeups.specs.Watches.{AreWatched, StayAwake}
use Rattle.oss_wakeups.proofs.watch.Watch.rest.Given as goal

-- those so far that stay awake, and those that were awake and are left, are all that are to be asked
abbrev pub invariant-loop-task : goal.invariant-loop-task
invariant-loop-task g l = record {
  watched : AreWatched (kept_of g.D.Deps.seen l.fn.core) (l.self.awake.items ++ drop l.task-index l.task-items) l.self;
  stay : StayAwake (kept_of g.D.Deps.seen l.fn.core) l.self.awake.items;
  same : kept_of g.D.Deps.seen l.core ≡ kept_of g.D.Deps.seen l.fn.core;
}
