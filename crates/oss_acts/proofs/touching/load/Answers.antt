use Rattle.std.proofs.Common.{sym, subst}
use Rattle.oss_code.specs.declared.code.CodeParts.{CodeParts}
use Rattle.oss_acts.proofs.TouchLemmas.{Advances, loaded, loaded_failed, may_load}
use Rattle.oss_acts.proofs.touching.load.Goals as goal

pub load-found-requires-clause-may : goal.load-found-requires-clause-may
load-found-requires-clause-may c =
    may_load c.args.field.now.code c.args.job.now c.requires.works.0 c.args.seat.now.known c.requires.works.1 c.requires.running c.args.cell c.requires.pending

pub returns-clause-acted : goal.returns-clause-acted
returns-clause-acted c =
    loaded c.args.field.now.code c.args.job.now c.requires.works.0 c.args.seat.now.known c.requires.works.1 c.requires.running c.advance.new.self c.load-found.new.seat.known c.args.cell c.load-found.result c.requires.pending
    c.load-found.ensures.loaded
    (subst (λ (z : CodeParts). Advances z c.args.job.now c.advance.new.self c.load-found.result) (sym c.requires.code) c.in_ok-advance.ensures.ok)

pub returns-clause-failed : goal.returns-clause-failed
returns-clause-failed c = loaded_failed c.args.field.now.code c.args.job.now c.args.cell c.load-found.result c.args.seat.now.known c.load-found.new.seat.known c.load-found.ensures.loaded
