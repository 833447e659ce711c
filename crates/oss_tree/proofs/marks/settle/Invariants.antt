use Rattle.std.proofs.Common.{◌<◌, length}
use Rattle.oss_tree.specs.Marks.{Alone, AreMarkedBut, Nobody}
use Rattle.oss_tree.proofs.marks.settle.Given as goal

abbrev pub invariant-loop-parent : goal.invariant-loop-parent
invariant-loop-parent l = record {
  marked : AreMarkedBut l.tasks l.marks Nobody (Alone l.at);
  within : l.at < length l.tasks;
}

abbrev pub decreases-loop-parent : goal.decreases-loop-parent
decreases-loop-parent l = l.at
