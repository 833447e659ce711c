use Rattle.std.proofs.Common.{◌≡◌, ◌+◌, ◌≤◌, drop}
use Rattle.oss_grammar.specs.Formats.{arguments_of}
use Rattle.oss_grammar.proofs.format.arguments.Given as goal

-- the count so far, and the arguments of what is left
abbrev pub invariant-loop-piece : goal.invariant-loop-piece
invariant-loop-piece l = record {
  counted : l.count + arguments_of (drop l.piece-index l.pieces) ≡ arguments_of l.pieces;
  small : l.count ≤ l.piece-index;
}
