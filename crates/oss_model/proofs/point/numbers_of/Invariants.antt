use Rattle.std.proofs.Common.{◌≡◌, drop, None}
use Rattle.oss_model.proofs.PointLemmas.{behind}
use Rattle.oss_model.specs.Points.{numbers_from}
use Rattle.oss_model.proofs.point.numbers_of.Given as goal

-- the numbers that were read, and those that are left
abbrev pub invariant-loop-b : goal.invariant-loop-b
invariant-loop-b l = behind l.numbers.items (numbers_from l.number (drop l.b-index l.text)) ≡ numbers_from None l.text
