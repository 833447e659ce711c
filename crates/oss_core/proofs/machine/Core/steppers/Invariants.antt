use Rattle.std.proofs.Common.{◌≡◌, drop}
use Rattle.oss_core.specs.Cores.{kept_of}
use Rattle.oss_core.proofs.SteppersLemmas.{AreSoFar}
use Rattle.oss_core.proofs.machine.Core.steppers.Given as goal

abbrev pub invariant-loop-task : goal.invariant-loop-task
invariant-loop-task g l = record {
  found : AreSoFar (kept_of g.D.Deps.seen l.fn.self) l.steppers.items (drop l.task-index l.asked);
  same : kept_of g.D.Deps.seen l.self ≡ kept_of g.D.Deps.seen l.fn.self;
}
