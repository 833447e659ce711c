use Rattle.std.proofs.Common.{ap, ◌∙◌}
use Rattle.oss_ranges.specs.Cells.{value_at}
use Rattle.oss_judge.proofs.ViewLemmas.{marks_changed}
use Rattle.oss_judge.specs.Changed.{overlaid}
use Rattle.oss_model.specs.Context.{made_mark}
use Rattle.oss_judge.specs.Seen.{mark_told, right_at}
use Rattle.oss_judge.proofs.context.Context.mark_rights.Goals as goal

pub returns-clause-ok : goal.returns-clause-ok
returns-clause-ok c = rw (← c.self.view_is) (marks_changed c.self.inside.cells c.self.inside.rights.pieces c.self.inside.lent.pieces c.self.inside.marks.pieces (record { ticks = c.self.inside.ticks; fuel = c.self.inside.fuel; created = c.self.inside.created; depth = c.self.inside.depth; final = c.self.inside.is_final }) c.self.invariant.2 c.self.invariant.3 c.self.invariant.4 c.change_all.new.map.pieces (λ cell mark. made_mark (right_at c.args.given.now.pieces cell) mark)
    (λ cell low. ap mark_told (c.in_ok-change_all.ensures.ok cell ∙ ap (λ xs. overlaid xs cell (value_at c.self.inside.marks.pieces cell)) c.as_slice.ensures.value) ∙ c.in_ok-changes.ensures.here cell low))
