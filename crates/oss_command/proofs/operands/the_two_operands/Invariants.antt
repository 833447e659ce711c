use Rattle.std.proofs.Common.{◌≡◌, length}
use Rattle.std.specs.Prelude.{map}
use Rattle.std.specs.String.{string_bytes}
use Rattle.oss_command.specs.Commands.{operands_in, the_two}
use Rattle.oss_command.proofs.operands.the_two_operands.Given as goal

-- those that are left decide
abbrev pub invariant-words : goal.invariant-words
invariant-words l = the_two (operands_in (map string_bytes l.left)) ≡ the_two (operands_in (map string_bytes l.words))

abbrev pub decreases-words : goal.decreases-words
decreases-words l = length l.left
