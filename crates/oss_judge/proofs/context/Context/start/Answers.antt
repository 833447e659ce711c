use Rattle.std.proofs.Common.{ap, ◌∙◌}
use Rattle.oss_judge.proofs.ViewLemmas.{child_is}
use Rattle.oss_judge.specs.Seen.{mark_at, right_at}
use Rattle.oss_model.specs.Rights.{first_mark, is_fresh}
use Rattle.oss_judge.proofs.context.Context.start.Goals as goal

pub returns-in-Ok : goal.returns-in-Ok
returns-in-Ok c = λ is.
    c.started.ensures
    ∙ child_is c.args.self.now c.args.clauses.now c.args.last c.is_child_final.result (right_at c.fill.new.rights.pieces) (mark_at c.fill.new.marks.pieces) c.is_child_final.ensures
    (λ cell low. c.in-Ok.ensures.rights cell low ∙ is.rights cell)
    (λ cell low. c.in-Ok.ensures.marks cell low ∙ ap (λ r. first_mark r (is_fresh c.args.clauses.now cell)) (is.rights cell))
