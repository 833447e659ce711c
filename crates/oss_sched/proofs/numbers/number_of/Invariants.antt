use Rattle.std.proofs.Common.{◌≡◌, drop, None}
use Rattle.oss_sched.specs.Reading.{number_from}
use Rattle.oss_sched.proofs.numbers.number_of.Given as goal

-- the digits that were read, and those that are left
abbrev pub invariant-loop-b : goal.invariant-loop-b
invariant-loop-b l = number_from l.number (drop l.b-index l.word) ≡ number_from None l.word
