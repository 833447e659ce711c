use Rattle.std.proofs.Common.{◌-◌, ◌≤◌}
use Rattle.oss_lent_cells.specs.Kept.{AreLentBefore}
use Rattle.oss_lent_cells.proofs.lending.lend_runs.Given as goal

-- the cells so far are lent
abbrev pub invariant-loop-from : goal.invariant-loop-from
invariant-loop-from l = record {
  high : l.from ≤ 1048576;
  lent : AreLentBefore l.child l.clauses.pieces l.from l.fn.cells.pieces l.cells.pieces;
}

abbrev pub decreases-loop-from : goal.decreases-loop-from
decreases-loop-from l = 1048576 - l.from
