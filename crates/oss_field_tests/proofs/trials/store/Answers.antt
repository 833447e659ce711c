use Rattle.std.proofs.Common.{subst}
use Rattle.oss_code.specs.declared.code.CodeParts.{CodeParts}
use Rattle.oss_field.specs.Asks.{IsStored}
use Rattle.oss_field_tests.proofs.TrialLemmas.{stored}
use Rattle.oss_field_tests.proofs.trials.store.Goals as goal

pub returns-clause-works : goal.returns-clause-works
returns-clause-works c =
    let k = c.args.seat.now.known in
    let l = c.store.new.seat.known in
    stored c.args.code.now c.args.job.now k c.requires.works c.requires.running c.advance.new.self l c.args.cell c.args.value c.requires.pending
    (subst (λ (z : CodeParts). IsStored z c.args.job.now c.args.cell c.args.value k l) c.requires.field.1 c.store.ensures.stored)
    c.in_ok-advance.ensures.ok
