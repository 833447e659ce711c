use Rattle.std.proofs.Common.{ℕ, ◌<◌}
use Rattle.oss_code.specs.Soundness.{IsSoundPlace}
use Rattle.oss_code.proofs.sound.are_places_sound.Given as goal

-- each place that was passed is sound
abbrev pub invariant-loop-at : goal.invariant-loop-at
invariant-loop-at l = (k : ℕ) → k < l.at → IsSoundPlace l.parts k
