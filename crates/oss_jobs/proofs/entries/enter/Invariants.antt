use Rattle.std.proofs.Common.{◌≡◌, ◌≤◌, ◌+◌, ◌*◌, ℕ, length, drop}
use Rattle.oss_ranges.specs.Cells.{value_at}
use Rattle.oss_jobs.specs.Entries.{cells_in, entered}
use Rattle.oss_jobs.proofs.entries.enter.Given as goal

-- there are numbers and room for the accesses that are left, and with them the map is what all accesses make of it
abbrev pub invariant-loop-access : goal.invariant-loop-access
invariant-loop-access l =
    (l.next + cells_in (drop l.access-index l.accesses) ≤ 16777216)
    × (3 * length (drop l.access-index l.accesses) ≤ l.entries.spares)
    × ((cell : ℕ) → entered l.next (drop l.access-index l.accesses) cell (value_at l.entries.pieces cell) ≡ entered l.first l.accesses cell (value_at l.initial.entries.pieces cell))
