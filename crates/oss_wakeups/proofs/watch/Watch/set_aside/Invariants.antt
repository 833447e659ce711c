use Rattle.std.proofs.Common.{◌≡◌, drop}
use Rattle.oss_core.specs.Cores.{kept_of}
use Rattle.oss_wakeups.specs.Asides.{AreFree, AreIdle}
use Rattle.oss_wakeups.proofs.AsideLemmas.{HasComeTo}
use Rattle.oss_wakeups.proofs.watch.Watch.set_aside.Given as goal

-- those so far that stay awake, and those that were awake and are left, are all that are to be asked
abbrev pub invariant-loop-task : goal.invariant-loop-task
invariant-loop-task g l = record {
  come : HasComeTo (kept_of g.D.Deps.seen l.fn.core) l.fn.self (drop l.task-index l.task-items) l.free.items l.self;
  idle : AreIdle (kept_of g.D.Deps.seen l.fn.core) l.self.awake.items;
  free : AreFree (kept_of g.D.Deps.seen l.fn.core) l.free.items;
  same : kept_of g.D.Deps.seen l.core ≡ kept_of g.D.Deps.seen l.fn.core;
}
