-- Sets of cells as they are kept: as pieces of a map without values.
-- Read against: the pieces `0..2` and `4..5` have the cells 0, 1 and 4; with 1 and 4 touched, cell 0 alone is left.
use Rattle.std.specs.Prelude.{◌≡◌, ◌≤◌, ◌<◌, ℕ, Bool, ◌&&◌, ◌||◌, not, is_some, List}
use Rattle.oss_ranges.specs.declared.piece.Piece.{Piece}
use Rattle.oss_ranges.specs.Cells.{value_at}

-- What contracts see of a set of cells.
abbrev pub SetOfCells : Type 0
SetOfCells = List (Piece (Unit {0}))

-- The set has the cell.
abbrev pub has : SetOfCells → ℕ → Bool
has s c = is_some (value_at s c)

-- The cell is in the first set, and not in the second.
abbrev pub is_left : SetOfCells → SetOfCells → ℕ → Bool
is_left declared touched c = has declared c && not (has touched c)

-- The new set has of the cells before this one those of the two sets, and else what the old one has.
pub record IsAddedTo (from : ℕ) (old other new : SetOfCells) : Type 0 where
  pub before : (c : ℕ) → c < from → has new c ≡ (has old c || has other c)
  pub behind : (c : ℕ) → from ≤ c → has new c ≡ has old c
