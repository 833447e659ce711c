use Rattle.std.proofs.Common.{ap, ◌∙◌}
use Rattle.oss_judge.proofs.ViewLemmas.{lend_same, made_same, own_right}
use Rattle.oss_judge.specs.Seen.{right_at}
use Rattle.oss_model.specs.Bodies.{one_more_created}
use Rattle.oss_model.specs.Context.{lend, made, right_of}
use Rattle.oss_judge.proofs.context.Context.noted_and_lent.Goals as goal

pub returns-clause-ok : goal.returns-clause-ok
returns-clause-ok c =
    let same = own_right c.child.inside.cells c.child.inside.rights.pieces c.child.inside.lent.pieces c.child.inside.marks.pieces (record { ticks = c.child.inside.ticks; fuel = c.child.inside.fuel; created = c.child.inside.created; depth = c.child.inside.depth; final = c.child.inside.is_final }) c.child.invariant.2 c.child.invariant.3 c.child.invariant.4 c.args.child.now c.child.view_is in
    c.created.ensures ∙ ap one_more_created c.in_ok-lend_and_mark.ensures.ok
    ∙ made_same (right_at c.child.inside.rights.pieces) (right_of c.args.child.now) (lend (right_at c.child.inside.rights.pieces) (one_more_created c.args.self.now)) same
    ∙ ap (made (right_of c.args.child.now)) (lend_same (right_at c.child.inside.rights.pieces) (right_of c.args.child.now) (one_more_created c.args.self.now) same)
