use Rattle.std.proofs.Common.{ap, ◌∙◌, false}
use Rattle.oss_judge.proofs.ViewLemmas.{own_mark, own_right}
use Rattle.oss_judge.specs.Joined.{held_mark, held_right}
use Rattle.oss_judge.specs.Seen.{mark_at}
use Rattle.oss_model.specs.Context.{right_of}
use Rattle.oss_model.specs.Rights.{mark_from, right_from}
use Rattle.oss_judge.proofs.context.Context.accesses.Goals as goal

pub returns-clause-rights : goal.returns-clause-rights
returns-clause-rights c = λ cell. ap (λ xs. right_from false xs cell) c.from_vec.ensures ∙ c.in_ok-accesses.ensures.rights cell ∙ ap held_right (own_right c.self.inside.cells c.self.inside.rights.pieces c.self.inside.lent.pieces c.self.inside.marks.pieces (record { ticks = c.self.inside.ticks; fuel = c.self.inside.fuel; created = c.self.inside.created; depth = c.self.inside.depth; final = c.self.inside.is_final }) c.self.invariant.2 c.self.invariant.3 c.self.invariant.4 c.args.self.now c.self.view_is cell)

pub returns-clause-marks : goal.returns-clause-marks
returns-clause-marks c = λ cell.
    ap (λ xs. mark_from false xs cell) c.from_vec.ensures ∙ c.in_ok-accesses.ensures.marks cell
    ∙ ap (λ r. held_mark r (mark_at c.self.inside.marks.pieces cell)) (own_right c.self.inside.cells c.self.inside.rights.pieces c.self.inside.lent.pieces c.self.inside.marks.pieces (record { ticks = c.self.inside.ticks; fuel = c.self.inside.fuel; created = c.self.inside.created; depth = c.self.inside.depth; final = c.self.inside.is_final }) c.self.invariant.2 c.self.invariant.3 c.self.invariant.4 c.args.self.now c.self.view_is cell)
    ∙ ap (held_mark (right_of c.args.self.now cell)) (own_mark c.self.inside.cells c.self.inside.rights.pieces c.self.inside.lent.pieces c.self.inside.marks.pieces (record { ticks = c.self.inside.ticks; fuel = c.self.inside.fuel; created = c.self.inside.created; depth = c.self.inside.depth; final = c.self.inside.is_final }) c.self.invariant.2 c.self.invariant.3 c.self.invariant.4 c.args.self.now c.self.view_is cell)
