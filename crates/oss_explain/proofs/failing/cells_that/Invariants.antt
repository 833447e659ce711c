use Rattle.std.proofs.Common.{◌≡◌, ◌≤◌, ◌<◌, ◌-◌, ℕ, false}
use Rattle.std.specs.Prelude.{◌&&◌}
use Rattle.oss_model.specs.Context.{right_of}
use Rattle.oss_pieces.specs.CellSets.{has}
use Rattle.oss_explain.specs.Failures.{passes}
use Rattle.oss_explain.proofs.failing.cells_that.Given as goal

-- the cells so far are those that pass, and no other is in the set
abbrev pub invariant-runs : goal.invariant-runs
invariant-runs l = record {
  within : l.from ≤ 1048576;
  so_far : (c : ℕ) → c < l.from → has l.cells c ≡ (has l.named c && passes l.test (right_of l.context c));
  past : (c : ℕ) → l.from ≤ c → has l.cells c ≡ false;
}

abbrev pub decreases-runs : goal.decreases-runs
decreases-runs l = 1048576 - l.from
