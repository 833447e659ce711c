-- The joined modes of clauses, and the cells of which two of them cannot be joined.
-- Read against: `in(0..2)` and `inout(1..3)` give the cell 0 the mode to read, and 1 and 2 that to write. `in(0..2)` and `reduction(+: 1..3)` give no mode to 1, which is mixed.
use Rattle.std.specs.Prelude.{◌≡◌, ℕ, ◌&&◌, ◌||◌, Bool, if◌then◌else◌, List, Option, Some, None}
use Rattle.oss_syntax.specs.declared.access.Access.{Access}
use Rattle.oss_syntax.specs.declared.access.Mode.{Mode}
use Rattle.oss_model.specs.Rights.{Holds, Right, is_mixed, is_no_join, joined_mode, right_from}
use Rattle.oss_ranges.specs.Cells.{is_within, value_at}
use Rattle.oss_ranges.specs.declared.piece.Piece.{Piece}
use Rattle.oss_pieces.specs.CellSets.{SetOfCells, has}
use Rattle.oss_explain.specs.declared.modes.Modes.{Modes}

-- the mode of a right, if there is one
abbrev pub mode_held : Right → Option Mode
mode_held (Holds m strong) = Some m
mode_held _ = None

-- the mode of a clause joined to that of others, if there are others
abbrev pub joined_held : Mode → Option Mode → Option Mode
joined_held m None = Some m
joined_held m (Some n) = joined_mode m n

-- The map has the joined mode of each cell that the clauses name.
abbrev pub AreJoined : List Access → List (Piece Mode) → Type 0
AreJoined clauses modes = (final : Bool) (c : ℕ) → value_at modes c ≡ mode_held (right_from final clauses c)

-- The set has the cells of which two clauses cannot be joined.
abbrev pub AreMixed : List Access → SetOfCells → Type 0
AreMixed clauses mixed = (final : Bool) (c : ℕ) → has mixed c ≡ is_mixed final clauses c

-- A clause of the mode was joined to the modes of the cells from `lo` up to `hi`.
abbrev pub JoinsModes : Mode → ℕ → ℕ → List (Piece Mode) → List (Piece Mode) → Type 0
JoinsModes m lo hi old new = (c : ℕ) → value_at new c ≡ (if is_within lo hi c then joined_held m (value_at old c) else value_at old c)

-- The cells among them with whose mode it could not be joined were put into the set.
abbrev pub JoinsMixed : Mode → ℕ → ℕ → List (Piece Mode) → SetOfCells → SetOfCells → Type 0
JoinsMixed m lo hi modes old new = (c : ℕ) → has new c ≡ (has old c || (is_within lo hi c && is_no_join (joined_held m (value_at modes c))))

-- These are the joined modes of the clauses, and the cells that are mixed.
pub record AreModes (clauses : List Access) (m : Modes) : Type 0 where
  pub joined : AreJoined clauses m.modes.pieces
  pub mixed : AreMixed clauses m.mixed
