use Rattle.std.proofs.Common.{sym, ap, ◌∙◌}
use Rattle.oss_judge.proofs.ViewLemmas.{seen_right}
use Rattle.oss_judge.specs.Seen.{right_told}
use Rattle.oss_model.specs.Context.{right_of}
use Rattle.oss_judge.proofs.context.Context.right_run.Goals as goal

pub returns-clause-alike : goal.returns-clause-alike
returns-clause-alike c = λ cell low high.
    let at = seen_right c.self.inside.cells c.self.inside.rights.pieces c.self.inside.lent.pieces c.self.inside.marks.pieces (record { ticks = c.self.inside.ticks; fuel = c.self.inside.fuel; created = c.self.inside.created; depth = c.self.inside.depth; final = c.self.inside.is_final }) c.self.invariant.2 c.self.invariant.3 c.self.invariant.4 cell in
    sym (ap (λ x. right_of x cell) c.self.view_is) ∙ at ∙ ap right_told (c.run_from-right.ensures.alike cell low high) ∙ sym c.told.ensures
