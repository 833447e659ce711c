use Rattle.std.proofs.Common.{◌-◌, ◌+◌, ◌≡◌, ◌≤◌, ◌++◌, List}
use Rattle.oss_pieces.specs.CellSets.{has}
use Rattle.oss_pieces.specs.Pieces.{ArePiecesTo, IsBetweenRuns}
use Rattle.oss_pieces.specs.Rows.{grid}
use Rattle.oss_pieces.specs.declared.piece.Piece.{Piece}
use Rattle.oss_pieces.proofs.finding.add_pieces_of.Given as goal

abbrev pub invariant-loop-at : goal.invariant-loop-at
invariant-loop-at l = (l.shape.start ≤ l.at) × (l.at ≤ l.shape.start + l.shape.cells) × IsBetweenRuns (grid l.shape) (has l.set) l.at
    × ((own : List Piece) × ArePiecesTo (grid l.shape) l.number (has l.set) l.at own × (l.found.items ≡ l.initial.found.items ++ own))

abbrev pub decreases-loop-at : goal.decreases-loop-at
decreases-loop-at l = l.shape.start + l.shape.cells - l.at
