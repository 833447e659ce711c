use Rattle.std.specs.Prelude.{take}
use Rattle.oss_core.specs.Cores.{kept_of}
use Rattle.oss_prior.specs.Choosing.{AreSuccessors}
use Rattle.oss_prior.proofs.choosing.successors_of.Given as goal

-- the successors among the tasks so far
abbrev pub invariant-loop-task : goal.invariant-loop-task
invariant-loop-task g l = AreSuccessors (kept_of g.D.Deps.seen l.fn.core) l.before l.queue (take l.task-index l.free) l.successors
