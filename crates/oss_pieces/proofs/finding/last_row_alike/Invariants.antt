use Rattle.std.proofs.Common.{◌-◌, ◌≤◌, ◌<◌, ◌*◌, ℕ}
use Rattle.oss_pieces.specs.CellSets.{has}
use Rattle.oss_pieces.specs.Rows.{HasRun, grid}
use Rattle.oss_pieces.proofs.finding.last_row_alike.Given as goal

abbrev pub invariant-loop-shape : goal.invariant-loop-shape
invariant-loop-shape l = (l.row ≤ l.last) × (l.last * l.shape.width < l.shape.cells)
    × ((r : ℕ) → l.row ≤ r → r ≤ l.last → HasRun (grid l.shape) (has l.set) r l.columns.first l.columns.last)

abbrev pub decreases-loop-shape : goal.decreases-loop-shape
decreases-loop-shape l = l.shape.cells - l.last
