use Rattle.std.proofs.Common.{◌-◌, ◌≤◌, ◌<◌, length, IfSome}
use Rattle.std.specs.Prelude.{slice_get}
use Rattle.oss_pieces.proofs.layout.global_of.Given as goal

-- one that begins before the cell, or at it, and the end of what is left
abbrev pub invariant-loop-high : goal.invariant-loop-high
invariant-loop-high l = (l.from ≤ l.low) × (l.low < l.high) × (l.high ≤ length l.shapes) × IfSome (slice_get l.shapes l.low) (λ shape. shape.start ≤ l.cell)

abbrev pub decreases-loop-high : goal.decreases-loop-high
decreases-loop-high l = l.high - l.low
