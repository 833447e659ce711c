use Rattle.std.proofs.Common.{◌≡◌, drop}
use Rattle.std.specs.Prelude.{map}
use Rattle.std.specs.String.{string_bytes}
use Rattle.oss_command.specs.Commands.{all_by, is_fuel_word}
use Rattle.oss_command.proofs.operands.are_fuel_words.Given as goal

-- those that are left decide
abbrev pub invariant-loop-word : goal.invariant-loop-word
invariant-loop-word l = all_by is_fuel_word (map string_bytes (drop l.word-index l.words)) ≡ all_by is_fuel_word (map string_bytes l.words)
