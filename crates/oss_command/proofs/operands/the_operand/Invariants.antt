use Rattle.std.proofs.Common.{◌≡◌, drop}
use Rattle.std.specs.Prelude.{map, option_map}
use Rattle.std.specs.String.{string_bytes}
use Rattle.oss_command.specs.Commands.{operands_in, the_one}
use Rattle.oss_command.proofs.JoinLemmas.{one_of}
use Rattle.oss_command.proofs.operands.the_operand.Given as goal

-- what was found, and the operands among the words that are left
abbrev pub invariant-loop-word : goal.invariant-loop-word
invariant-loop-word l = one_of (option_map (λ w. w.now) l.found) (operands_in (map string_bytes (drop l.word-index l.words))) ≡ the_one (operands_in (map string_bytes l.words))
