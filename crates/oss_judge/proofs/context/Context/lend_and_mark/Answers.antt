use Rattle.std.proofs.Common.{ap, ◌∙◌}
use Rattle.oss_ranges.specs.Cells.{value_at}
use Rattle.oss_judge.proofs.ViewLemmas.{both_changed}
use Rattle.oss_judge.specs.Changed.{overlaid}
use Rattle.oss_judge.specs.Seen.{lending_told, mark_told, right_at}
use Rattle.oss_judge.proofs.context.Context.lend_and_mark.Goals as goal

pub returns-clause-ok : goal.returns-clause-ok
returns-clause-ok c = rw (← c.self.view_is) (both_changed c.self.inside.cells c.self.inside.rights.pieces c.self.inside.lent.pieces c.self.inside.marks.pieces (record { ticks = c.self.inside.ticks; fuel = c.self.inside.fuel; created = c.self.inside.created; depth = c.self.inside.depth; final = c.self.inside.is_final }) c.self.invariant.2 c.self.invariant.3 c.self.invariant.4
    (right_at c.args.given.now.pieces) c.change_both.new.first.pieces c.change_both.new.second.pieces
    (λ cell past.
    c.in_ok-change_both.ensures.first cell ∙ ap (λ xs. overlaid xs cell (value_at c.self.inside.lent.pieces cell)) c.as_slice.ensures.value
    ∙ c.in_ok-lent.ensures.past cell (value_at c.self.inside.lent.pieces cell) past ∙ c.self.invariant.3 cell past)
    (λ cell low. ap lending_told (c.in_ok-change_both.ensures.first cell ∙ ap (λ xs. overlaid xs cell (value_at c.self.inside.lent.pieces cell)) c.as_slice.ensures.value) ∙ c.in_ok-lent.ensures.here cell low)
    (λ cell low. ap mark_told (c.in_ok-change_both.ensures.second cell ∙ ap (λ xs. overlaid xs cell (value_at c.self.inside.marks.pieces cell)) c.as_slice-2.ensures.value) ∙ c.in_ok-written.ensures.here cell low))
