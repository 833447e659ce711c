-- Changes of a map from cells, one after the other.
use Rattle.std.specs.Prelude.{ℕ, if◌then◌else◌, List, [], ◌∷◌, Option}
use Rattle.oss_ranges.specs.Cells.{is_within}
use Rattle.oss_judge.specs.declared.changes.Change.{Change}

-- the value of a cell behind changes: that of the last one that has the cell
abbrev pub overlaid : {T : Type 0} → List (Change T) → ℕ → Option T → Option T
overlaid [] cell value = value
overlaid (c ∷ rest) cell value = overlaid rest cell (if is_within c.range.lo c.range.hi cell then c.value else value)
