use Rattle.std.proofs.Common.{ℕ, sym, subst, length}
use Rattle.oss_body.specs.Mains.{code_main}
use Rattle.oss_code.specs.declared.code.CodeParts.{CodeParts}
use Rattle.oss_model.specs.Agreement.{Setting}
use Rattle.oss_acts.proofs.TakeLemmas.{IsSome, none_rests, some_works, take_failed}
use Rattle.oss_acts.proofs.taking.take.Goals as goal

pub returns-clause-works : goal.returns-clause-works
returns-clause-works c =
    let code = c.args.field.now.code in
    let k = c.args.seat.now.known in
    let l = c.take_body.new.seat.known in
    some_works code c.args.fuel c.args.task c.take_body.result k l
    (subst (λ (z : CodeParts). Setting (code_main z c.args.fuel) z.first) (sym c.requires.code) c.main_is_set.ensures) c.requires.rests
    (subst (λ (f : ℕ). IsSome code f c.args.task k l c.take_body.result) c.requires.fuel c.take_body.ensures.some)

pub returns-clause-rests : goal.returns-clause-rests
returns-clause-rests c = none_rests (length c.args.field.now.code.first) c.args.task c.take_body.result c.args.seat.now.known c.take_body.new.seat.known c.requires.rests c.take_body.ensures.none

pub returns-clause-failed : goal.returns-clause-failed
returns-clause-failed c = take_failed c.args.field.now.code c.args.field.now.fuel c.args.task c.take_body.result c.args.seat.now.known c.take_body.new.seat.known c.take_body.ensures.some c.take_body.ensures.none
