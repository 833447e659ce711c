use Rattle.std.proofs.Common.{◌≡◌, drop}
use Rattle.std.specs.Prelude.{map}
use Rattle.std.specs.String.{string_bytes}
use Rattle.oss_command.specs.Commands.{standing, values_of}
use Rattle.oss_command.specs.Values.{stands}
use Rattle.oss_command.proofs.JoinLemmas.{joined}
use Rattle.oss_command.proofs.values.value_of.Given as goal

-- what was found, and the values of the words that are left
abbrev pub invariant-loop-word : goal.invariant-loop-word
invariant-loop-word l = joined (stands l.found) (values_of l.name (map string_bytes (drop l.word-index l.words))) ≡ standing (values_of l.name (map string_bytes l.words))
