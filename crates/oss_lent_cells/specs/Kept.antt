-- What a task has lent, kept by ranges of cells.
-- Read against: child 0 gets the cells 0 to 3 by `in(a[0;4])`, and child 1 the cell 2 by `out(a[2])`. Of 0, 1 and 3 is kept that child 0 is the first that has them, and that none may do more than read; of 2 the same first child, and that child 1 writes it. Behind a wait for the
-- cells 0 and 1 nothing is kept of these.
use Rattle.std.specs.Prelude.{◌≡◌, ℕ, Bool, false, ◌||◌, if◌then◌else◌, List, [], ◌∷◌, Option, Some, None}
use Rattle.oss_syntax.specs.declared.access.Range.{Range}
use Rattle.oss_ranges.specs.declared.piece.Piece.{Piece}
use Rattle.oss_ranges.specs.Cells.{is_within, value_at}
use Rattle.oss_needs.specs.declared.clause.Clause.{Clause}
use Rattle.oss_lent_cells.specs.declared.holder.Child.{Child}
use Rattle.oss_lent_cells.specs.declared.holder.Holder.{Holder}
use Rattle.oss_lent_cells.specs.declared.holder.Lent.{Lent}
use Rattle.oss_lent_cells.specs.Lent.{LentCells, all_counted, counted, counted_if, lend_by, lent_to, lends, waited_for}

-- This is kept of what is lent of each cell.
abbrev pub AreLent : LentCells → List (Piece Lent) → Type 0
AreLent lent pieces = (c : ℕ) → value_at pieces c ≡ lent c

-- The child gets the cells from `lo` up to `hi`.
abbrev pub IsLentTo : Holder → ℕ → ℕ → List (Piece Lent) → List (Piece Lent) → Type 0
IsLentTo h lo hi old new = (c : ℕ) → value_at new c ≡ (if is_within lo hi c then Some (lent_to h (value_at old c)) else value_at old c)

-- What clauses say of the cells before this one, and of no other.
abbrev pub said_before : List (Piece Clause) → ℕ → ℕ → Option Clause
said_before clauses from c = if is_within 0 from c then value_at clauses c else None

-- The child has a cell by this clause, as it counts.
abbrev pub holder_by : Child → Clause → Holder
holder_by h c = record { number = h.number; line = h.line; clause = counted h.is_final c }

-- The child gets the cells before this one by its clauses, as they count.
abbrev pub AreLentBefore : Child → List (Piece Clause) → ℕ → List (Piece Lent) → List (Piece Lent) → Type 0
AreLentBefore h clauses from old new = (c : ℕ) → value_at new c ≡ lend_by h.number h.line (counted_if h.is_final (said_before clauses from c)) (value_at old c)

-- It gets each cell by its clauses, as they count.
abbrev pub AreLends : Child → List (Piece Clause) → List (Piece Lent) → List (Piece Lent) → Type 0
AreLends h clauses old new = (lent : LentCells) → AreLent lent old → AreLent (lends h.number h.line (all_counted h.is_final (value_at clauses)) lent) new

-- The cell is in one of the ranges.
abbrev pub in_ranges : List Range → ℕ → Bool
in_ranges [] c = false
in_ranges (r ∷ rest) c = is_within r.lo r.hi c || in_ranges rest c

-- The cells of the ranges are no longer lent.
abbrev pub AreTakenBack : List Range → List (Piece Lent) → List (Piece Lent) → Type 0
AreTakenBack named old new = (c : ℕ) → value_at new c ≡ (if in_ranges named c then None else value_at old c)

-- The task waits for its children's accesses to the cells of the ranges.
abbrev pub AreWaitedFor : List Range → List (Piece Lent) → List (Piece Lent) → Type 0
AreWaitedFor named old new = (lent : LentCells) → AreLent lent old → AreLent (waited_for (in_ranges named) lent) new
