use Rattle.std.proofs.Common.{◌≡◌, ◌≤◌, drop, length}
use Rattle.oss_judge.specs.Seen.{right_seen}
use Rattle.oss_model.specs.Rights.{right_from}
use Rattle.oss_explain.proofs.at_cell.right_at.Given as goal

-- what the last accesses give
abbrev pub invariant-loop-left : goal.invariant-loop-left
invariant-loop-left l = record {
  within : l.left ≤ length l.accesses;
  given : right_seen l.right ≡ right_from l.is_final (drop l.left l.accesses) l.cell;
}

abbrev pub decreases-loop-left : goal.decreases-loop-left
decreases-loop-left l = l.left
