use Rattle.std.proofs.Common.{◌≡◌, ◌≤◌, length, vec_capacity}
use Rattle.oss_ranges.specs.Cells.{outside, Rises}
use Rattle.oss_ranges.proofs.flat_map.clear_out.Given as goal

abbrev pub invariant-loop-pieces : goal.invariant-loop-pieces
invariant-loop-pieces g l =
    Rises 0 l.pieces.items 1048576
    × (outside l.lo l.hi l.pieces.items ≡ outside l.lo l.hi l.initial.pieces.items)
    × (length l.pieces.items ≤ length l.initial.pieces.items)
    × (vec_capacity l.initial.pieces ≤ vec_capacity l.pieces)

abbrev pub decreases-loop-pieces : goal.decreases-loop-pieces
decreases-loop-pieces g l = length l.pieces.items
