use Rattle.std.proofs.Common.{◌≡◌, ◌≤◌, ◌*◌, ℕ, length, drop}
use Rattle.oss_ranges.specs.Cells.{value_at}
use Rattle.oss_judge.specs.Changed.{overlaid}
use Rattle.oss_judge.proofs.changes.change_reserved.Given as goal

-- there is room for the changes that are left, and with them the map is what all changes make of it
abbrev pub invariant-loop-change : goal.invariant-loop-change
invariant-loop-change g l =
    (3 * length (drop l.change-index l.changes) ≤ l.map.spares)
    × ((cell : ℕ) → overlaid (drop l.change-index l.changes) cell (value_at l.map.pieces cell) ≡ overlaid l.changes cell (value_at l.initial.map.pieces cell))
