use Rattle.std.proofs.Common.{refl}
use Rattle.oss_missing_waits.proofs.ToldLemmas.{lends_more, lends_nothing, lends_when}
use Rattle.oss_missing_waits.proofs.holding.HoldingTask.lend.Goals as goal

pub returns-in_ok-lend : goal.returns-in_ok-lend
returns-in_ok-lend c =
    let old = c.args.self.now in
    let new = record old { lent = c.lend.new.self } in
    lends_when c.args.child c.args.clauses.now.pieces c.args.lends old new c.if-lends.true (lends_more c.args.child c.args.clauses.now.pieces old new c.in_ok-lend.ensures refl refl refl refl)

pub returns-else-lends : goal.returns-else-lends
returns-else-lends c = lends_nothing c.args.child c.args.clauses.now.pieces c.args.lends c.args.self.now c.if-lends.false
