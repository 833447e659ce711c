use Rattle.std.proofs.Common.{◌≤◌, drop, length}
use Rattle.oss_lent_cells.specs.Kept.{in_ranges}
use Rattle.oss_missing_waits.specs.Kept.{AreReleased}
use Rattle.oss_missing_waits.proofs.using.used_by_ranges.Given as goal

-- those of the last ones
abbrev pub invariant-loop-left : goal.invariant-loop-left
invariant-loop-left l = record {
  within : l.left ≤ length l.named;
  released : AreReleased (in_ranges (drop l.left l.named)) l.released l.used;
}

abbrev pub decreases-loop-left : goal.decreases-loop-left
decreases-loop-left l = l.left
