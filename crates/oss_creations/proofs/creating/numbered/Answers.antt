use Rattle.std.proofs.Common.{subst, sym}
use Rattle.oss_jobs.specs.declared.job.Job.{Job}
use Rattle.oss_creations.specs.Creating.{IsChild}
use Rattle.oss_creations.proofs.creating.numbered.Goals as goal

pub returns-clause-child : goal.returns-clause-child
returns-clause-child c = λ code job child. c.number.ensures.child code job (subst (λ (j : Job). IsChild code job j) (sym c.deref_mut.ensures.value) child)
