use Rattle.std.proofs.Common.{sym, subst}
use Rattle.oss_code.specs.declared.code.CodeParts.{CodeParts}
use Rattle.oss_acts.proofs.TouchLemmas.{Advances, stored, stored_failed}
use Rattle.oss_acts.proofs.touching.store.Goals as goal

pub returns-clause-acted : goal.returns-clause-acted
returns-clause-acted c =
    stored c.args.field.now.code c.args.job.now c.requires.works.0 c.args.seat.now.known c.requires.works.1 c.requires.running c.advance.new.self c.store.new.seat.known c.args.cell c.args.value c.requires.pending
    c.store.ensures.stored
    (subst (λ (z : CodeParts). Advances z c.args.job.now c.advance.new.self 0) (sym c.requires.code) c.in_ok-advance.ensures.ok)

pub returns-clause-failed : goal.returns-clause-failed
returns-clause-failed c = stored_failed c.args.field.now.code c.args.job.now c.args.cell c.args.value c.args.seat.now.known c.store.new.seat.known c.store.ensures.stored
