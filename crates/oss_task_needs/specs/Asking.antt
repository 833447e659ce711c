-- What a task asks of each cell, kept by ranges of cells.
-- Read against: a task stores into the cells 0 to 3 and then creates a task with `in(a[2])`, of the cell 2. Of 0, 1 and 3 it asks the store, and of 2 the creation too, which stands before the store in the
-- list of its demands, since the last one stands first.
use Rattle.std.specs.Prelude.{◌≡◌, ℕ, if◌then◌else◌, List, [], ◌∷◌, Option, Some, None}
use Rattle.oss_ranges.specs.declared.piece.Piece.{Piece}
use Rattle.oss_ranges.specs.Cells.{is_within, value_at}
use Rattle.oss_needs.specs.declared.clause.Clause.{Clause}
use Rattle.oss_needs.specs.declared.demand.Demand.{Demand}
use Rattle.oss_needs.specs.declared.demand.Demand.TheVariants.{Create}
use Rattle.oss_needs.specs.declared.need.Need.{Need}
use Rattle.oss_needs.specs.Needs.{IsNeed}

-- The demands of a task on each cell.
abbrev pub Asked : Type 0
Asked = ℕ → List Demand

-- It asks nothing.
abbrev pub nothing_asked : Asked
nothing_asked c = []

-- This is kept of the demands on a cell.
abbrev pub IsKept : List Demand → Option Need → Type 0
IsKept ds None = ds ≡ []
IsKept ds (Some n) = IsNeed ds n

-- This is kept of the demands on each cell.
abbrev pub AreKept : Asked → (ℕ → Option Need) → Type 0
AreKept asked needs = (c : ℕ) → IsKept (asked c) (needs c)

-- A demand more on each cell from `lo` up to `hi`.
abbrev pub asks : Demand → ℕ → ℕ → Asked → Asked
asks d lo hi asked c = if is_within lo hi c then d ∷ asked c else asked c

-- A demand more on each cell of which the clauses of a new task say something.
abbrev pub creates : Option Clause → List Demand → List Demand
creates None ds = ds
creates (Some clause) ds = Create clause ∷ ds

abbrev pub asks_for : (ℕ → Option Clause) → Asked → Asked
asks_for clauses asked c = creates (clauses c) (asked c)

-- The demand is kept of the cells of the range.
abbrev pub IsAsked : Demand → ℕ → ℕ → List (Piece Need) → List (Piece Need) → Type 0
IsAsked d lo hi old new = (asked : Asked) → AreKept asked (value_at old) → AreKept (asks d lo hi asked) (value_at new)

-- The creation is kept of the cells before this one.
abbrev pub is_asked_for : List (Piece Clause) → ℕ → ℕ → Option Clause
is_asked_for clauses from c = if is_within 0 from c then value_at clauses c else None

abbrev pub IsAskedFor : List (Piece Clause) → ℕ → List (Piece Need) → List (Piece Need) → Type 0
IsAskedFor clauses from old new = (asked : Asked) → AreKept asked (value_at old) → AreKept (asks_for (is_asked_for clauses from) asked) (value_at new)
