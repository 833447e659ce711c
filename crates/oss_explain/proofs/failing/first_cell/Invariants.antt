use Rattle.std.proofs.Common.{◌≡◌, ◌≤◌, ◌<◌, ◌-◌, ℕ, false}
use Rattle.oss_pieces.specs.CellSets.{has}
use Rattle.oss_explain.proofs.failing.first_cell.Given as goal

-- no cell so far is in the set
abbrev pub invariant-runs : goal.invariant-runs
invariant-runs l = record {
  within : l.at ≤ 1048576;
  none : (c : ℕ) → c < l.at → has l.cells c ≡ false;
}

abbrev pub decreases-runs : goal.decreases-runs
decreases-runs l = 1048576 - l.at
