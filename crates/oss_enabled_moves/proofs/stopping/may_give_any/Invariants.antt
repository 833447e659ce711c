use Rattle.std.proofs.Common.{◌≡◌, ℕ, ◌<◌, ◌≤◌, ◌-◌, None}
use Rattle.oss_ranges.specs.Cells.{value_at}
use Rattle.oss_enabled_moves.specs.Enabled.{MayGive}
use Rattle.oss_enabled_moves.proofs.stopping.may_give_any.Given as goal

-- no cell so far may be given up, and no cell past the last is owed
abbrev pub invariant-runs : goal.invariant-runs
invariant-runs l = record {
  none : (c : ℕ) → c < l.from → MayGive l.held l.tree.tasks l.fn.task.0 c → ⊥;
  past : 0 < l.from → (c : ℕ) → 1048576 ≤ c → value_at l.held.owed.pieces c ≡ None;
}

abbrev pub decreases-runs : goal.decreases-runs
decreases-runs l = 1048576 - l.from
