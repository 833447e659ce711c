use Rattle.std.proofs.Common.{◌≡◌, ◌<◌, ◌^◌, take}
use Rattle.oss_grammar.specs.Words.{value_in}
use Rattle.oss_lex.proofs.numbers.value.Given as goal

abbrev pub invariant-loop-b : goal.invariant-loop-b
invariant-loop-b l = (l.sum ≡ value_in l.base (take l.b-index l.digits)) × (l.sum < 2 ^ 64)
