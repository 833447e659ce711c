use Rattle.std.proofs.Common.{◌≡◌, ◌++◌, drop}
use Rattle.oss_pieces.specs.Names.{further_pieces}
use Rattle.oss_pieces.proofs.names.add_further.Given as goal

-- what is left goes behind what is written
abbrev pub invariant-loop-piece : goal.invariant-loop-piece
invariant-loop-piece l = l.text.items ++ further_pieces l.globals (drop l.piece-index l.pieces) ≡ l.initial.text.items ++ further_pieces l.globals l.pieces
