use Rattle.std.proofs.Common.{◌≤◌, ◌+◌, ◌++◌, drop, List}
use Rattle.oss_grammar.specs.Layout.{cells_in}
use Rattle.oss_pieces.specs.CellSets.{has}
use Rattle.oss_pieces.specs.Pieces.{ArePieces}
use Rattle.oss_pieces.specs.declared.piece.Piece.{Piece}
use Rattle.oss_pieces.proofs.finding.pieces.Given as goal

-- what is left to find goes behind what is found
abbrev pub invariant-loop-item : goal.invariant-loop-item
invariant-loop-item l = (l.number ≤ l.item-index) × (l.start + cells_in (drop l.item-index l.program.items) ≤ 1048576)
    × ((others : List Piece) → ArePieces (has l.set) (drop l.item-index l.program.items) l.number l.start others
    → ArePieces (has l.set) l.program.items 0 0 (l.found.items ++ others))
