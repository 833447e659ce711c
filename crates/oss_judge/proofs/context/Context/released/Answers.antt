use Rattle.std.proofs.Common.{ap, ◌∙◌, if◌then◌else◌}
use Rattle.oss_ranges.specs.Cells.{value_at}
use Rattle.oss_judge.proofs.ViewLemmas.{rights_changed}
use Rattle.oss_judge.specs.Changed.{overlaid}
use Rattle.oss_model.specs.Context.{in_clauses}
use Rattle.oss_model.specs.Rights.{Released}
use Rattle.oss_judge.specs.Seen.{right_told}
use Rattle.oss_judge.proofs.context.Context.released.Goals as goal

pub returns-clause-ok : goal.returns-clause-ok
returns-clause-ok c = rw (← c.self.view_is) (rights_changed c.self.inside.cells c.self.inside.rights.pieces c.self.inside.lent.pieces c.self.inside.marks.pieces (record { ticks = c.self.inside.ticks; fuel = c.self.inside.fuel; created = c.self.inside.created; depth = c.self.inside.depth; final = c.self.inside.is_final }) c.self.invariant.2 c.self.invariant.3 c.self.invariant.4 c.change_all.new.map.pieces (λ cell right. if in_clauses c.args.clauses.now cell then Released else right)
    (λ cell low. ap right_told (c.in_ok-change_all.ensures.ok cell ∙ ap (λ xs. overlaid xs cell (value_at c.self.inside.rights.pieces cell)) c.as_slice-2.ensures.value) ∙ c.in_ok-changes.ensures.here cell (value_at c.self.inside.rights.pieces cell) low ∙ ap (λ xs. if in_clauses xs cell then Released else right_told (value_at c.self.inside.rights.pieces cell)) c.as_slice.ensures))
