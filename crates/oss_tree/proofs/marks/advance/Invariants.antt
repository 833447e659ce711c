use Rattle.std.proofs.Common.{◌≡◌, ◌<◌, ◌≤◌, ◌-◌, ℕ, length, Some, true}
use Rattle.std.specs.Prelude.{slice_get, slice_index}
use Rattle.oss_tree.specs.Tasks.{number}
use Rattle.oss_tree.specs.Marks.{is_settled}
use Rattle.oss_tree.proofs.marks.advance.Given as goal

abbrev pub invariant-loop-mark : goal.invariant-loop-mark
invariant-loop-mark l = record {
  above : slice_index l.marks l.at ≤ l.mark;
  within : l.mark ≤ length l.children;
  settled : (k c : ℕ) → k < l.mark → slice_get l.children k ≡ Some (number c) → is_settled l.tasks l.marks c ≡ true;
}

abbrev pub decreases-loop-mark : goal.decreases-loop-mark
decreases-loop-mark l = length l.children - l.mark
