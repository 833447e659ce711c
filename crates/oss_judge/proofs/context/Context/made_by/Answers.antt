use Rattle.std.proofs.Common.{◌∙◌}
use Rattle.oss_judge.proofs.ViewLemmas.{made_same, own_right}
use Rattle.oss_judge.specs.Seen.{right_at}
use Rattle.oss_model.specs.Context.{right_of}
use Rattle.oss_judge.proofs.context.Context.made_by.Goals as goal

pub returns-clause-ok : goal.returns-clause-ok
returns-clause-ok c = c.in_ok-mark_rights.ensures.ok ∙ made_same (right_at c.child.inside.rights.pieces) (right_of c.args.child.now) c.args.self.now (own_right c.child.inside.cells c.child.inside.rights.pieces c.child.inside.lent.pieces c.child.inside.marks.pieces (record { ticks = c.child.inside.ticks; fuel = c.child.inside.fuel; created = c.child.inside.created; depth = c.child.inside.depth; final = c.child.inside.is_final }) c.child.invariant.2 c.child.invariant.3 c.child.invariant.4 c.args.child.now c.child.view_is)
