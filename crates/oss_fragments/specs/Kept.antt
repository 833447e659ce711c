-- What contracts see of the cells in fragments.
-- Read against: two fragments, `0..4` with main and task 1, asked for, and `4..1048576` with main alone, asked for. The cells 0 to 3 have two
-- accesses, all others one; the cuts are 0 and 4. Before anything is opened there is no fragment, and each cell has main's access alone.
use Rattle.std.specs.Prelude.{ℕ, ◌==◌, ◌&&◌, ◌||◌, Bool, false, List, [], ◌∷◌, Option, Some, None, option_and_then, slice_get}
use Rattle.oss_ranges.specs.declared.piece.Piece.{Piece}
use Rattle.oss_ranges.specs.Cells.{value_at}
use Rattle.oss_fragments.specs.declared.fragment.Fragment.{Fragment}
use Rattle.oss_fragments.specs.Here.{Here, here_of, bare}

-- What contracts see.
pub record Kept : Type 0 where
  -- the fragments, in the order in which they were made
  pub fragments : List Fragment
  -- the place in that list of the fragment that a cell is in
  pub pieces : List (Piece ℕ)
  -- the end of all cells is a cut
  pub ended : Bool

-- The fragment of a cell.
abbrev pub fragment_at : List (Piece ℕ) → List Fragment → ℕ → Option Fragment
fragment_at pieces fragments c = option_and_then (slice_get fragments) (value_at pieces c)

-- The accesses of a fragment; main's alone where there is none.
abbrev pub here_in : Option Fragment → Here
here_in None = bare
here_in (Some a) = here_of a

-- The accesses to a cell, by the lists that are kept.
abbrev pub here_by : List (Piece ℕ) → List Fragment → ℕ → Here
here_by pieces fragments c = here_in (fragment_at pieces fragments c)

-- The accesses to a cell.
abbrev pub here_at : Kept → ℕ → Here
here_at kept c = here_by kept.pieces kept.fragments c

-- A fragment begins at the cell whose begin was asked for.
abbrev pub is_asked : List Fragment → ℕ → Bool
is_asked [] k = false
is_asked (a ∷ rest) k = (a.asked && (k == a.lo)) || is_asked rest k

-- The cell is a cut, by the lists that are kept.
abbrev pub is_cut_by : List Fragment → Bool → ℕ → Bool
is_cut_by fragments ended k = is_asked fragments k || (ended && (k == 1048576))

-- The cell is a cut: a range that is given up may end there.
abbrev pub is_cut : Kept → ℕ → Bool
is_cut kept k = is_cut_by kept.fragments kept.ended k
