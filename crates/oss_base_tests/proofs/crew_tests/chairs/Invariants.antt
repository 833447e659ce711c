use Rattle.std.proofs.Common.{◌≡◌, length}
use Rattle.oss_base_tests.proofs.crew_tests.chairs.Given as goal

-- a chair for each turn so far
abbrev pub invariant-loop : goal.invariant-loop
invariant-loop l = length l.all.items ≡ l.counter
