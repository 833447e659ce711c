-- What the clauses of a task say of each cell, kept by ranges of cells.
-- Read against: of `in(a[0;3]) out(a[2])`, with a[0] the cell 0, is kept that the cells 0 and 1 may be read, and 2 read and written; of the others nothing is.
use Rattle.std.specs.Prelude.{◌≡◌, ℕ, Bool, if◌then◌else◌, List, Option, Some, None}
use Rattle.oss_syntax.specs.declared.access.Access.{Access}
use Rattle.oss_ranges.specs.declared.piece.Piece.{Piece}
use Rattle.oss_ranges.specs.Cells.{is_within, value_at}
use Rattle.oss_needs.specs.declared.clause.Clause.{Clause}
use Rattle.oss_needs.specs.declared.clause.Given.{Given}
use Rattle.oss_needs.specs.declared.clause.Given.TheVariants as given
use Rattle.oss_needs.specs.Givens.{given_of, with_clause}

-- What is kept of a cell; clauses say nothing of it if nothing is.
abbrev pub or_no_word : Option Given → Given
or_no_word None = given.Nothing
or_no_word (Some g) = g

abbrev pub given_at : List (Piece Given) → ℕ → Given
given_at pieces c = or_no_word (value_at pieces c)

-- This is kept of these clauses.
abbrev pub AreGiven : Bool → List Access → List (Piece Given) → Type 0
AreGiven final clauses pieces = (c : ℕ) → given_at pieces c ≡ given_of final clauses c

-- One clause more is said of the cells from `lo` up to `hi`.
abbrev pub IsSaid : Clause → ℕ → ℕ → List (Piece Given) → List (Piece Given) → Type 0
IsSaid clause lo hi old new = (c : ℕ) → given_at new c ≡ (if is_within lo hi c then with_clause clause (given_at old c) else given_at old c)
