use Rattle.std.specs.Prelude.{take}
use Rattle.oss_core.specs.Cores.{kept_of}
use Rattle.oss_prior.specs.Choosing.{AreAdded}
use Rattle.oss_prior.proofs.choosing.admit.Given as goal

-- the tasks so far were added
abbrev pub invariant-loop-task : goal.invariant-loop-task
invariant-loop-task g l = AreAdded (kept_of g.D.Deps.seen l.fn.core) (take l.task-index l.free) l.initial.queue l.queue
