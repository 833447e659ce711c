use Rattle.std.proofs.Common.{◌≡◌, ◌++◌, drop}
use Rattle.oss_grammar.specs.Formats.{written_pieces}
use Rattle.oss_grammar.proofs.format.write_pieces.Given as goal

-- what is written so far, and what the rest is to write
abbrev pub invariant-loop-piece : goal.invariant-loop-piece
invariant-loop-piece l = l.output.items ++ written_pieces (drop l.piece-index l.pieces) l.left ≡ l.fn.output.items ++ written_pieces l.pieces l.values
