use Rattle.std.proofs.Common.{◌≡◌, ◌<◌, ◌≤◌, ◌-◌, ℕ, true}
use Rattle.oss_pieces.specs.CellSets.{is_left}
use Rattle.oss_audit.specs.Runs.{HasRunsBefore}
use Rattle.oss_audit.proofs.runs.unused_runs.Given as goal

-- The cells from the start of a run up to this one are left, and the runs before it are told.
abbrev pub invariant-runs : goal.invariant-runs
invariant-runs l =
    (l.start ≤ l.from) × (l.from ≤ 1048576) × HasRunsBefore l.point l.declared l.touched l.start l.told.items × ((c : ℕ) → l.start ≤ c → c < l.from → is_left l.declared l.touched c ≡ true)

abbrev pub decreases-runs : goal.decreases-runs
decreases-runs l = 1048576 - l.from
