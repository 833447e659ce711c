use Rattle.std.proofs.Common.{◌≡◌, ◌≤◌, ◌<◌, ◌-◌, ℕ, false, None}
use Rattle.oss_ranges.specs.Cells.{value_at}
use Rattle.oss_model.specs.Context.{right_of}
use Rattle.oss_pieces.specs.CellSets.{has}
use Rattle.oss_explain.specs.Failures.{is_uncovered_by}
use Rattle.oss_explain.proofs.failing.uncovered_cells.Given as goal

-- the cells so far are those that are not covered, no other is in the set, and behind the last one no mode is given
abbrev pub invariant-runs : goal.invariant-runs
invariant-runs l = record {
  within : l.from ≤ 1048576;
  so_far : (c : ℕ) → c < l.from → has l.cells c ≡ is_uncovered_by (right_of l.context c) (value_at l.wanted.modes.pieces c);
  past : (c : ℕ) → l.from ≤ c → has l.cells c ≡ false;
  outside : 0 < l.from → (c : ℕ) → 1048576 ≤ c → value_at l.wanted.modes.pieces c ≡ None;
}

abbrev pub decreases-runs : goal.decreases-runs
decreases-runs l = 1048576 - l.from
