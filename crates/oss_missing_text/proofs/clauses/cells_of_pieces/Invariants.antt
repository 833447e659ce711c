use Rattle.std.proofs.Common.{◌≡◌, ◌≤◌, ◌+◌, ◌*◌, drop}
use Rattle.oss_pieces.specs.Names.{cells_in_pieces}
use Rattle.oss_missing_text.proofs.clauses.cells_of_pieces.Given as goal

-- what is left is counted beside what was
abbrev pub invariant-loop-piece : goal.invariant-loop-piece
invariant-loop-piece l = (l.cells + cells_in_pieces (drop l.piece-index l.pieces) ≡ cells_in_pieces l.pieces) × (l.cells ≤ l.piece-index * 18446744073709551616)
