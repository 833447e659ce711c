use Rattle.std.proofs.Common.{◌-◌, ◌≤◌}
use Rattle.oss_task_needs.specs.Asking.{IsAskedFor}
use Rattle.oss_task_needs.proofs.asking.ask_for_runs.Given as goal

-- the creation is kept of the cells so far
abbrev pub invariant-loop-from : goal.invariant-loop-from
invariant-loop-from l = (l.from ≤ 1048576) × IsAskedFor l.clauses.pieces l.from l.fn.cells.pieces l.cells.pieces

abbrev pub decreases-loop-from : goal.decreases-loop-from
decreases-loop-from l = 1048576 - l.from
