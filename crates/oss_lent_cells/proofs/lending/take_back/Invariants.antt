use Rattle.std.proofs.Common.{◌≤◌, drop, length}
use Rattle.oss_lent_cells.specs.Kept.{AreTakenBack}
use Rattle.oss_lent_cells.proofs.lending.take_back.Given as goal

-- the cells of the last ranges are taken back
abbrev pub invariant-loop-left : goal.invariant-loop-left
invariant-loop-left l = record {
  within : l.left ≤ length l.named;
  back : AreTakenBack (drop l.left l.named) l.fn.cells.pieces l.cells.pieces;
}

abbrev pub decreases-loop-left : goal.decreases-loop-left
decreases-loop-left l = l.left
