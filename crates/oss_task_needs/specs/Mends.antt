-- What the clauses of a task lack for what it asks of each cell, and what they say once that is mended.
-- Read against: a task with `in(a[0;3])`, of the cells 0 to 2, stores into the cells 1 and 3. It lacks `out(a[1])` beside its clause, and `out(a[3])`. Mended, it has `in` of 0 and 2, `inout` of 1, which is to be read too, and `out` of 3.
use Rattle.std.specs.Prelude.{◌≡◌, ℕ, if◌then◌else◌, List, Option, Some, None}
use Rattle.oss_ranges.specs.declared.piece.Piece.{Piece}
use Rattle.oss_ranges.specs.Cells.{is_within, value_at}
use Rattle.oss_needs.specs.declared.clause.Clause.{Clause}
use Rattle.oss_needs.specs.declared.clause.Given.{Given}
use Rattle.oss_needs.specs.declared.lack.Lack.{Lack}
use Rattle.oss_needs.specs.declared.lack.Lack.TheVariants as lack
use Rattle.oss_needs.specs.declared.need.Need.{Need}
use Rattle.oss_needs.specs.Lacks.{lack_of, mended}
use Rattle.oss_task_needs.specs.Asking.{AreKept, Asked}
use Rattle.oss_task_needs.specs.declared.mending.Mending.{Mending}

-- What is kept of a lack: of none nothing is.
abbrev pub kept_lack : Lack → Option Lack
kept_lack lack.Nothing = None
kept_lack (lack.Adds c) = Some (lack.Adds c)
kept_lack (lack.Replaces c) = Some (lack.Replaces c)

-- What stands in a map for the cells before this one.
abbrev pub only_before : {T : Type 0} → ℕ → ℕ → Option T → Option T
only_before from c value = if is_within 0 from c then value else None

-- For a task whose clauses say this of each cell, and which asks this: what is lacking of each cell before this one, and what clauses say of it then.
abbrev pub AreMended : (ℕ → Given) → Asked → ℕ → List (Piece Clause) → Type 0
AreMended given asked from clauses = (c : ℕ) → value_at clauses c ≡ only_before from c (mended (given c) (asked c))

abbrev pub AreLacking : (ℕ → Given) → Asked → ℕ → List (Piece Lack) → Type 0
AreLacking given asked from lacks = (c : ℕ) → value_at lacks c ≡ only_before from c (kept_lack (lack_of (given c) (asked c)))

-- This is what the clauses lack, and what they say once it is mended, of each cell that a program may have.
pub record IsMending (given : ℕ → Given) (asked : Asked) (m : Mending) : Type 0 where
  pub clauses : AreMended given asked 1048576 m.clauses.pieces
  pub lacks : AreLacking given asked 1048576 m.lacks.pieces

-- The same with what is kept of the demands.
abbrev pub MendsBefore : (ℕ → Given) → (ℕ → Option Need) → ℕ → List (Piece Clause) → Type 0
MendsBefore given needs from clauses = (asked : Asked) → AreKept asked needs → AreMended given asked from clauses

abbrev pub LacksBefore : (ℕ → Given) → (ℕ → Option Need) → ℕ → List (Piece Lack) → Type 0
LacksBefore given needs from lacks = (asked : Asked) → AreKept asked needs → AreLacking given asked from lacks
