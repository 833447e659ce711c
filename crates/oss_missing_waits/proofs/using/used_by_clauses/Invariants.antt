use Rattle.std.proofs.Common.{◌≤◌, drop, length}
use Rattle.oss_model.specs.Context.{in_clauses}
use Rattle.oss_missing_waits.specs.Kept.{AreReleased}
use Rattle.oss_missing_waits.proofs.using.used_by_clauses.Given as goal

-- those of the last ones
abbrev pub invariant-loop-left : goal.invariant-loop-left
invariant-loop-left l = record {
  within : l.left ≤ length l.clauses;
  released : AreReleased (in_clauses (drop l.left l.clauses)) l.released l.used;
}

abbrev pub decreases-loop-left : goal.decreases-loop-left
decreases-loop-left l = l.left
