use Rattle.std.proofs.Common.{subst}
use Rattle.oss_code.specs.declared.code.CodeParts.{CodeParts}
use Rattle.oss_field.specs.Asks.{IsLoaded}
use Rattle.oss_field_tests.proofs.TrialLemmas.{loaded}
use Rattle.oss_field_tests.proofs.trials.load.Goals as goal

pub returns-clause-works : goal.returns-clause-works
returns-clause-works c =
    let k = c.args.seat.now.known in
    let l = c.load-found.new.seat.known in
    loaded c.args.code.now c.args.job.now k c.requires.works c.requires.running c.advance.new.self l c.args.cell c.load-found.result c.requires.pending
    (subst (λ (z : CodeParts). IsLoaded z c.args.job.now c.args.cell c.load-found.result k l) c.requires.field.1 c.load-found.ensures.loaded)
    c.in_ok-advance.ensures.ok
