use Rattle.std.proofs.Common.{◌-◌, ◌≤◌}
use Rattle.oss_task_needs.specs.Asking.{IsAsked}
use Rattle.oss_task_needs.proofs.asking.ask_runs.Given as goal

-- the demand is kept of the cells so far
abbrev pub invariant-loop-from : goal.invariant-loop-from
invariant-loop-from l = record {
  low : l.range.lo ≤ l.from;
  high : l.from ≤ l.range.hi;
  asked : IsAsked l.demand l.range.lo l.from l.fn.cells.pieces l.cells.pieces;
}

abbrev pub decreases-loop-from : goal.decreases-loop-from
decreases-loop-from l = l.range.hi - l.from
