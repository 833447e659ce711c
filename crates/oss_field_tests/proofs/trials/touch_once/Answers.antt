use Rattle.std.proofs.Common.{sym, subst, length}
use Rattle.oss_code.specs.declared.code.CodeParts.{CodeParts}
use Rattle.oss_jobs.specs.declared.job.Job.{Job}
use Rattle.oss_field_tests.specs.Trials.{Works}
use Rattle.oss_field_tests.proofs.TrialLemmas.{taken}
use Rattle.oss_field_tests.proofs.trials.touch_once.Goals as goal

pub touch-requires-clause-works : goal.touch-requires-clause-works
touch-requires-clause-works c =
    let code = c.args.field.now.code in
    let l = c.take_body.new.seat.known in
    let t = c.in-Some.ensures.some in
    subst (λ (z : CodeParts). Works z c.deref_mut.result.now l) c.requires.field.1
    (subst (λ (z : Job). Works code z l) (sym c.deref_mut.ensures.value)
    (taken code c.args.field.now.fuel c.args.task (length code.first) _ t.0 c.args.seat.now.known l t.1 c.requires.idles t.2))
