use Rattle.oss_core.specs.CoreLeft.{core_left}
use Rattle.oss_core.specs.Cores.{kept_of}
use Rattle.oss_prior.specs.Stepping.{HaveStepsLeft}
use Rattle.oss_prior.specs.Turning.{HaveStepsGone}
use Rattle.oss_prior.proofs.stepping.steps.Given as goal

-- so far steps of the task were made, and no other has changed
abbrev pub invariant-steps : goal.invariant-steps
invariant-steps g l = record {
  gone : HaveStepsGone l.code l.task (kept_of g.D.Deps.seen l.fn.core) (kept_of g.D.Deps.seen l.core) l.acts;
  left : HaveStepsLeft l.task.0 l.acts (kept_of g.D.Deps.seen l.fn.core) (kept_of g.D.Deps.seen l.core);
}

-- what is left to do falls with each of them
abbrev pub decreases-steps : goal.decreases-steps
decreases-steps g l = core_left l.code (kept_of g.D.Deps.seen l.core)
