-- The place of an element of an array of two dimensions, counted from the array's first cell.
-- Read against: in 3 rows of 4 cells the place of [1][2] is 6, and that of the first cell of row 2 is 8; [1][4], [3][0] and [1][-1] have
-- no place.
use Rattle.std.specs.Prelude.{ℕ, ◌+◌, ◌*◌, ◌&&◌, if◌then◌else◌, Bool, Option, Some, None, pos, int_le, int_lt}
use Rattle.oss_grammar.specs.SectionCells.{signed}

-- a number of 64 bits, read as signed, is the index of one of so many elements: of 4 elements 3 is, and 4 and -1 are not
abbrev pub is_index : ℕ → ℕ → Bool
is_index count v = int_le (pos 0) (signed v) && int_lt (signed v) (pos count)

-- The place of an element: as many whole rows as its row says lie before its row, and as many cells as its column says lie before it
-- there. A column that is left out is the first. There is none where an index is outside of its dimension.
abbrev pub place_of : ℕ → ℕ → ℕ → Option ℕ → Option ℕ
place_of rows columns row None = if is_index rows row then Some (row * columns) else None
place_of rows columns row (Some column) = if is_index rows row && is_index columns column then Some (row * columns + column) else None
