use Rattle.std.proofs.Common.{◌≡◌, ◌<◌, length, false}
use Rattle.oss_tree.specs.Marks.{Alone, AreMarkedBut, Nobody, is_settled}
use Rattle.oss_tree.proofs.marks.reopen.Given as goal

abbrev pub invariant-loop-at : goal.invariant-loop-at
invariant-loop-at l = record {
  marked : AreMarkedBut l.tasks l.marks (Alone l.at) Nobody;
  left : is_settled l.tasks l.marks l.at ≡ false;
  within : l.at < length l.tasks;
}

abbrev pub decreases-loop-at : goal.decreases-loop-at
decreases-loop-at l = l.at
