use Rattle.std.proofs.Common.{◌≡◌, ◌++◌, length}
use Rattle.std.specs.Prelude.{option_map}
use Rattle.oss_grammar.specs.Formats.{pieces_of}
use Rattle.oss_grammar.proofs.format.pieces.Given as goal

-- the pieces so far stand before those of what is left
abbrev pub invariant-loop-left : goal.invariant-loop-left
invariant-loop-left l = option_map (λ rest. l.found.items ++ rest) (pieces_of l.left) ≡ pieces_of l.format

-- what is left grows shorter
abbrev pub decreases-loop-left : goal.decreases-loop-left
decreases-loop-left l = length l.left
