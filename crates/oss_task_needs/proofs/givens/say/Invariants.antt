use Rattle.std.proofs.Common.{◌-◌, ◌≤◌}
use Rattle.oss_task_needs.specs.Saying.{IsSaid}
use Rattle.oss_task_needs.proofs.givens.say.Given as goal

-- the clause is said of the cells so far
abbrev pub invariant-loop-from : goal.invariant-loop-from
invariant-loop-from l = record {
  low : l.range.lo ≤ l.from;
  high : l.from ≤ l.range.hi;
  said : IsSaid l.clause l.range.lo l.from l.fn.cells.pieces l.cells.pieces;
}

abbrev pub decreases-loop-from : goal.decreases-loop-from
decreases-loop-from l = l.range.hi - l.from
