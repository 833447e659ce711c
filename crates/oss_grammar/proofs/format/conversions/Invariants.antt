use Rattle.std.proofs.Common.{◌≡◌, ◌+◌, ◌≤◌, length}
use Rattle.std.specs.Prelude.{option_map}
use Rattle.oss_grammar.specs.Formats.{arguments_of, conversions_of, pieces_of}
use Rattle.oss_grammar.proofs.format.conversions.Given as goal

-- the arguments so far, and those that the rest takes
abbrev pub invariant-loop-left : goal.invariant-loop-left
invariant-loop-left l = record {
  counted : option_map (λ rest. l.count + arguments_of rest) (pieces_of l.left) ≡ conversions_of l.format;
  few : l.count + length l.left ≤ length l.format;
}

-- what is left grows shorter
abbrev pub decreases-loop-left : goal.decreases-loop-left
decreases-loop-left l = length l.left
