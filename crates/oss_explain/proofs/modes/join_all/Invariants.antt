use Rattle.std.proofs.Common.{◌≤◌, drop, length}
use Rattle.oss_explain.specs.Joining.{AreJoined, AreMixed}
use Rattle.oss_explain.proofs.modes.join_all.Given as goal

-- what the last clauses give
abbrev pub invariant-loop-left : goal.invariant-loop-left
invariant-loop-left l = record {
  within : l.left ≤ length l.clauses;
  joined : AreJoined (drop l.left l.clauses) l.modes.pieces;
  mixed : AreMixed (drop l.left l.clauses) l.mixed;
}

abbrev pub decreases-loop-left : goal.decreases-loop-left
decreases-loop-left l = l.left
