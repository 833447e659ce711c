-- Sums of integers.
use Rattle.std.proofs.Common.{◌≡◌, arith}
use Rattle.std.proofs.lemmas.Int.{ints}
use Rattle.std.specs.Prelude.{ℤ, pos, ◌+ℤ◌, ◌-ℤ◌}

-- the last element of a span: where it begins, and how far it is from its lower end to its upper one
pub ends_alike : (from upper lower : ℤ) → (from +ℤ upper) -ℤ lower ≡ (from +ℤ ((upper -ℤ lower) +ℤ pos 1)) -ℤ pos 1
ends_alike from upper lower = omega (arith, ints)
