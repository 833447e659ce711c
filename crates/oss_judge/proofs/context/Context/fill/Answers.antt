use Rattle.std.proofs.Common.{◌<◌, sym, ap, subst, ◌∙◌}
use Rattle.oss_ranges.specs.Cells.{value_at}
use Rattle.oss_judge.proofs.ViewLemmas.{own_length}
use Rattle.oss_judge.specs.Seen.{mark_told, right_at, right_told}
use Rattle.oss_judge.specs.View.{EndsBefore}
use Rattle.oss_model.specs.Rights.{first_mark, is_fresh}
use Rattle.oss_judge.proofs.context.Context.fill.Goals as goal

pub returns-clause-rights : goal.returns-clause-rights
returns-clause-rights c = λ cell low.
    ap right_told (c.in_ok-truncate.ensures.here cell (subst (λ n. cell < n) (sym (own_length c.self.inside.cells c.self.inside.rights.pieces c.self.inside.lent.pieces c.self.inside.marks.pieces (record { ticks = c.self.inside.ticks; fuel = c.self.inside.fuel; created = c.self.inside.created; depth = c.self.inside.depth; final = c.self.inside.is_final }) c.args.self.now c.self.view_is)) low))
    ∙ ap (λ ps. right_told (value_at ps cell)) c.in_ok-copy_to.ensures

pub returns-clause-marks : goal.returns-clause-marks
returns-clause-marks c = λ cell low.
    ap mark_told (c.in_ok-truncate-2.ensures.here cell (subst (λ n. cell < n) (sym (own_length c.self.inside.cells c.self.inside.rights.pieces c.self.inside.lent.pieces c.self.inside.marks.pieces (record { ticks = c.self.inside.ticks; fuel = c.self.inside.fuel; created = c.self.inside.created; depth = c.self.inside.depth; final = c.self.inside.is_final }) c.args.self.now c.self.view_is)) low))
    ∙ c.in_ok-mark_all.ensures cell
    ∙ ap (λ xs. first_mark (right_at c.args.given.now.pieces cell) (is_fresh xs cell)) c.as_slice.ensures

pub returns-clause-rights_end : goal.returns-clause-rights_end
returns-clause-rights_end c = subst (λ n. EndsBefore n c.truncate.new.self.pieces) (own_length c.self.inside.cells c.self.inside.rights.pieces c.self.inside.lent.pieces c.self.inside.marks.pieces (record { ticks = c.self.inside.ticks; fuel = c.self.inside.fuel; created = c.self.inside.created; depth = c.self.inside.depth; final = c.self.inside.is_final }) c.args.self.now c.self.view_is) c.in_ok-truncate.ensures.past

pub returns-clause-marks_end : goal.returns-clause-marks_end
returns-clause-marks_end c = subst (λ n. EndsBefore n c.truncate-2.new.self.pieces) (own_length c.self.inside.cells c.self.inside.rights.pieces c.self.inside.lent.pieces c.self.inside.marks.pieces (record { ticks = c.self.inside.ticks; fuel = c.self.inside.fuel; created = c.self.inside.created; depth = c.self.inside.depth; final = c.self.inside.is_final }) c.args.self.now c.self.view_is) c.in_ok-truncate-2.ensures.past
