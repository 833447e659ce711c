use Rattle.std.proofs.Common.{◌-◌, ◌≡◌, ◌≤◌, ◌<◌, ℕ, true}
use Rattle.oss_pieces.specs.CellSets.{has}
use Rattle.oss_pieces.proofs.finding.run_end.Given as goal

abbrev pub invariant-runs : goal.invariant-runs
invariant-runs l = (l.from ≤ l.at) × (l.at ≤ l.to) × ((c : ℕ) → l.from ≤ c → c < l.at → has l.set c ≡ true)

abbrev pub decreases-runs : goal.decreases-runs
decreases-runs l = l.to - l.at
