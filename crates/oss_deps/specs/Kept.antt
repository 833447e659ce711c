-- What the plain lists keep, and what of it is seen.
-- Read against: two stretches, `0..4` with task 1 in its list and `4..1048576` with main alone; task 1 has given up cell 3 if its mark
-- in the first list says so, and has not given up cell 5.
use Rattle.std.specs.Prelude.{ℕ, ◌==◌, ◌&&◌, ◌||◌, Bool, false, List, [], ◌∷◌, Option, Some, None, option_and_then, slice_get}
use Rattle.oss_syntax.specs.declared.access.Access.{Access}
use Rattle.oss_ranges.specs.declared.piece.Piece.{Piece}
use Rattle.oss_ranges.specs.Cells.{value_at}
use Rattle.oss_deps.specs.declared.opened.Open.{Open}
use Rattle.oss_deps.specs.declared.frame.Frame.{Frame}
use Rattle.oss_deps.specs.declared.frame.Mark.{Mark}
use Rattle.oss_deps.specs.declared.column.Column.{Column}
use Rattle.oss_deps.specs.Seen.{Seen}

-- What contracts see of the plain lists.
pub record Kept : Type 0 where
  pub opens : List Open
  -- which stretch a cell is in
  pub pieces : List (Piece ℕ)
  pub columns : List Column
  -- the end of all cells is a cut
  pub ended : Bool
  pub reserved : Option (List Access)

-- An access of the task in a list is given up.
abbrev pub given_by : List Frame → List Mark → ℕ → Bool
given_by [] marks t = false
given_by (f ∷ frames) [] t = false
given_by (f ∷ frames) (m ∷ marks) t = ((f.task == t) && m.given) || given_by frames marks t

abbrev pub given_in : Option Column → ℕ → Bool
given_in None t = false
given_in (Some column) t = given_by column.frames.items column.marks.items t

-- The stretch of a cell.
abbrev pub column_at : List (Piece ℕ) → List Column → ℕ → Option Column
column_at pieces columns c = option_and_then (slice_get columns) (value_at pieces c)

-- The task has given up the cell.
abbrev pub given_at : List (Piece ℕ) → List Column → ℕ → ℕ → Bool
given_at pieces columns t c = given_in (column_at pieces columns c) t

-- A stretch begins at the cell whose begin was asked for.
abbrev pub is_asked : List Column → ℕ → Bool
is_asked [] k = false
is_asked (column ∷ rest) k = (column.asked && (k == column.lo)) || is_asked rest k

-- The cell is a cut.
abbrev pub is_cut : List Column → Bool → ℕ → Bool
is_cut columns ended k = is_asked columns k || (ended && (k == 1048576))

abbrev pub seen_of : Kept → Seen
seen_of kept = record {
  opens = kept.opens;
  given = given_at kept.pieces kept.columns;
  cut = is_cut kept.columns kept.ended;
  reserved = kept.reserved;
}
