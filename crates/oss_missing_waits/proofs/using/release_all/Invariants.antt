use Rattle.std.proofs.Common.{◌≤◌, drop, length}
use Rattle.oss_missing_waits.proofs.UsingLemmas.{AreAdded}
use Rattle.oss_missing_waits.proofs.using.release_all.Given as goal

-- the cells of the last clauses are added
abbrev pub invariant-loop-left : goal.invariant-loop-left
invariant-loop-left l = record {
  within : l.left ≤ length l.clauses;
  added : AreAdded (drop l.left l.clauses) l.fn.released l.released;
}

abbrev pub decreases-loop-left : goal.decreases-loop-left
decreases-loop-left l = l.left
