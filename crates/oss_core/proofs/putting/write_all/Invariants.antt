use Rattle.std.proofs.Common.{◌≡◌, ◌<◌, ◌≤◌, ◌-◌, ℕ, None}
use Rattle.oss_ranges.specs.Cells.{value_at}
use Rattle.oss_core.proofs.WriteLemmas.{AreRunsPut}
use Rattle.oss_core.proofs.putting.write_all.Given as goal

-- all runs so far are put, and no cell past the last has a value
abbrev pub invariant-runs : goal.invariant-runs
invariant-runs l = record {
  put : AreRunsPut l.writes.pieces l.from l.initial.cells l.cells;
  past : 0 < l.from → (c : ℕ) → 1048576 ≤ c → value_at l.writes.pieces c ≡ None;
}

abbrev pub decreases-runs : goal.decreases-runs
decreases-runs l = 1048576 - l.from
