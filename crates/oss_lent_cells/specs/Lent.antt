-- What a task has lent of each cell to its children since it last waited for them: the first child that has the cell, and the first that may do more than read it.
-- Read against: a task creates child 0 with `in(x)`, child 1 with `in(x) out(y)`, child 2 with `inout(x)` and child 3 with `inout(x)`. A read of x is hindered by child 2, and a write of it by child 0; each touch of y by child 1. Once it has waited for x, y alone
-- is lent. A child that only folds hinders a read as one that writes does. A final child with `weakin(x)` gets x by `in`.
use Rattle.std.specs.Prelude.{ℕ, Bool, true, false, ◌||◌, if◌then◌else◌, Option, Some, None}
use Rattle.oss_syntax.specs.declared.access.Mode.{Mode}
use Rattle.oss_syntax.specs.declared.access.Mode.TheVariants.{Read}
use Rattle.oss_needs.specs.declared.clause.Clause.{Clause}
use Rattle.oss_lent_cells.specs.declared.holder.Holder.{Holder}
use Rattle.oss_lent_cells.specs.declared.holder.Lent.{Lent}

abbrev pub LentCells : Type 0
LentCells = ℕ → Option Lent

-- Nothing is lent.
abbrev pub nothing_lent : LentCells
nothing_lent c = None

abbrev pub only_reads : Mode → Bool
only_reads Read = true
only_reads _ = false

-- a child that may do more than read
abbrev pub if_more : Holder → Option Holder
if_more h = if only_reads h.clause.mode then None else Some h

abbrev pub or_else : Option Holder → Option Holder → Option Holder
or_else (Some w) other = Some w
or_else None other = other

-- The cell is lent to one child more.
abbrev pub lent_to : Holder → Option Lent → Lent
lent_to h None = record { first = h; writer = if_more h }
lent_to h (Some l) = record { first = l.first; writer = or_else l.writer (if_more h) }

-- A clause as it counts: each clause of a final task, or of one that a final task creates, counts as strong.
abbrev pub counted : Bool → Clause → Clause
counted final c = record { mode = c.mode; strong = final || c.strong; fresh = c.fresh }

-- the same where there may be none, and of all cells
abbrev pub counted_if : Bool → Option Clause → Option Clause
counted_if final None = None
counted_if final (Some c) = Some (counted final c)

abbrev pub all_counted : Bool → (ℕ → Option Clause) → ℕ → Option Clause
all_counted final clauses c = counted_if final (clauses c)

-- The child with this number, created on this line, gets the cell by this clause, if by any.
abbrev pub lend_by : ℕ → ℕ → Option Clause → Option Lent → Option Lent
lend_by number line None old = old
lend_by number line (Some c) old = Some (lent_to (record { number = number; line = line; clause = c }) old)

-- It gets each cell by its clauses.
abbrev pub lends : ℕ → ℕ → (ℕ → Option Clause) → LentCells → LentCells
lends number line clauses lent c = lend_by number line (clauses c) (lent c)

-- The task waits for its children's accesses to the cells of which the test holds.
abbrev pub waited_for : (ℕ → Bool) → LentCells → LentCells
waited_for test lent c = if test c then None else lent c

-- the first child that has the cell, and the first that may do more than read it
abbrev pub first_holder : Option Lent → Option Holder
first_holder None = None
first_holder (Some l) = Some l.first

abbrev pub first_writer : Option Lent → Option Holder
first_writer None = None
first_writer (Some l) = l.writer
