use Rattle.std.proofs.Common.{subst}
use Rattle.oss_body.specs.declared.body.Body.{Body as Kept}
use Rattle.oss_creations.proofs.MakeLemmas.{Begins, child_made, gives_made}
use Rattle.oss_creations.proofs.creating.new_job.Goals as goal

pub returns-clause-child : goal.returns-clause-child
returns-clause-child c =
    child_made c.args.code.now c.args.job.now c.in_ok-new.new c.in_ok-body.body c.in_ok-accesses.accesses (subst (λ (b : Kept). Begins c.args.code.now b c.in_ok-body.body) c.body.ensures.kept c.in_ok-body.ensures) c.in_ok-new.ensures.job c.in_ok-accesses.ensures.rights c.in_ok-new.ensures.task

pub returns-clause-gives : goal.returns-clause-gives
returns-clause-gives c =
    gives_made c.args.code.now c.args.job.now c.in_ok-body.body c.in_ok-accesses.accesses c.in_ok-accesses.ensures.rising (subst (λ (b : Kept). Begins c.args.code.now b c.in_ok-body.body) c.body.ensures.kept c.in_ok-body.ensures) c.in_ok-accesses.ensures.rights
