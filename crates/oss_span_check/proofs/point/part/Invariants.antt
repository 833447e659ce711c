-- What is left of both lists parts where the whole lists do.
use Rattle.std.specs.Prelude.{◌≡◌, ◌≤◌, ◌-◌, length, drop}
use Rattle.oss_span_check.specs.Points.{parted}
use Rattle.oss_span_check.proofs.point.part.Given as goal

abbrev pub invariant-loop-at : goal.invariant-loop-at
invariant-loop-at l = (parted 0 l.fn.later l.fn.earlier ≡ parted l.at (drop l.at l.fn.later) (drop l.at l.fn.earlier)) × (l.at ≤ length l.fn.later) × (l.at ≤ length l.fn.earlier)

abbrev pub decreases-loop-at : goal.decreases-loop-at
decreases-loop-at l = length l.fn.later - l.at
