use Rattle.std.proofs.Common.{◌-◌, ◌≡◌, ◌≤◌, ◌<◌, ℕ, false}
use Rattle.oss_pieces.specs.CellSets.{has}
use Rattle.oss_missing_waits.proofs.using.cell_of.Given as goal

abbrev pub invariant-runs : goal.invariant-runs
invariant-runs l = (l.at ≤ 1048576) × ((c : ℕ) → c < l.at → has l.set c ≡ false)

abbrev pub decreases-runs : goal.decreases-runs
decreases-runs l = 1048576 - l.at
