use Rattle.std.proofs.Common.{◌≤◌, drop, length}
use Rattle.oss_task_needs.specs.Saying.{AreGiven}
use Rattle.oss_task_needs.proofs.givens.say_all.Given as goal

-- what the last clauses say
abbrev pub invariant-loop-left : goal.invariant-loop-left
invariant-loop-left l = record {
  within : l.left ≤ length l.clauses;
  given : AreGiven l.is_final (drop l.left l.clauses) l.cells.pieces;
}

abbrev pub decreases-loop-left : goal.decreases-loop-left
decreases-loop-left l = l.left
