use Rattle.std.proofs.Common.{◌≡◌, length}
use Rattle.oss_ranges.specs.Cells.{outside, Rises}
use Rattle.oss_ranges.proofs.tree_map.without_range.Given as goal

abbrev pub invariant-loop-left : goal.invariant-loop-left
invariant-loop-left g l = Rises 0 l.left 1048576 × (outside l.lo l.hi l.left ≡ outside l.lo l.hi l.initial.left)

abbrev pub decreases-loop-left : goal.decreases-loop-left
decreases-loop-left g l = length l.left
