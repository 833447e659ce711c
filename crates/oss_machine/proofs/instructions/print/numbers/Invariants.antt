use Rattle.std.proofs.Common.{◌≡◌, map, take}
use Rattle.oss_meaning.specs.Pointers.{number_in}
use Rattle.oss_machine.proofs.instructions.print.numbers.Given as goal

abbrev pub invariant-loop-value : goal.invariant-loop-value
invariant-loop-value l = l.found.items ≡ map number_in (take l.value-index l.values)
