use Rattle.std.proofs.Common.{◌-◌, ◌≤◌}
use Rattle.oss_ranges.specs.Cells.{value_at}
use Rattle.oss_task_needs.specs.Mends.{LacksBefore, MendsBefore}
use Rattle.oss_task_needs.specs.Saying.{given_at}
use Rattle.oss_task_needs.proofs.mending.mend_all.Given as goal

-- the cells so far are mended
abbrev pub invariant-loop-from : goal.invariant-loop-from
invariant-loop-from l = record {
  high : l.from ≤ 1048576;
  clauses : MendsBefore (given_at l.givens.pieces) (value_at l.needs.pieces) l.from l.clauses.pieces;
  lacks : LacksBefore (given_at l.givens.pieces) (value_at l.needs.pieces) l.from l.lacks.pieces;
}

abbrev pub decreases-loop-from : goal.decreases-loop-from
decreases-loop-from l = 1048576 - l.from
