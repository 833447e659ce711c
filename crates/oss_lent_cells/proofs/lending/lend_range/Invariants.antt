use Rattle.std.proofs.Common.{◌-◌, ◌≤◌}
use Rattle.oss_lent_cells.specs.Kept.{IsLentTo}
use Rattle.oss_lent_cells.proofs.lending.lend_range.Given as goal

-- the cells so far are lent
abbrev pub invariant-loop-from : goal.invariant-loop-from
invariant-loop-from l = record {
  low : l.range.lo ≤ l.from;
  high : l.from ≤ l.range.hi;
  lent : IsLentTo l.child l.range.lo l.from l.fn.cells.pieces l.cells.pieces;
}

abbrev pub decreases-loop-from : goal.decreases-loop-from
decreases-loop-from l = l.range.hi - l.from
