use Rattle.oss_core.specs.Cores.{kept_of}
use Rattle.oss_core.proofs.WavingLemmas.{AreOut}
use Rattle.oss_core.proofs.machine.Core.lend.Given as goal

-- the bodies of the tasks so far are out
abbrev pub invariant-loop-task : goal.invariant-loop-task
invariant-loop-task g l = AreOut l.steppers l.task-index l.bodies.items (kept_of g.D.Deps.seen l.initial.self) (kept_of g.D.Deps.seen l.self)
