use Rattle.std.proofs.Common.{sym, subst}
use Rattle.oss_code.specs.declared.code.CodeParts.{CodeParts}
use Rattle.oss_acts.proofs.TouchLemmas.{Advances}
use Rattle.oss_endings.proofs.WaitLemmas.{of_error, stays_works, waited}
use Rattle.oss_endings.proofs.waiting.wait.Goals as goal

pub returns-in_err-advance-clause-stays : goal.returns-in_err-advance-clause-stays
returns-in_err-advance-clause-stays c = of_error c.from_residual.result (λ x w. stays_works c.args.field.now.code c.args.job.now c.advance.new.self x c.all_done.new.seat.known c.in_err-advance.ensures.stays (c.all_done.ensures.works x w))

pub returns-clause-acted : goal.returns-clause-acted
returns-clause-acted c = λ _. waited c.args.field.now.code c.args.job.now c.advance.new.self c.requires.works.0 c.args.seat.now.known c.all_done.new.seat.known c.requires.works.1 c.requires.running c.all_done.ensures.looks
    (subst (λ (z : CodeParts). Advances z c.args.job.now c.advance.new.self 0) (sym c.requires.code) c.in_ok-advance.ensures.ok) c.requires.pending (c.all_done.ensures.done c.if-not-all_done.false)
