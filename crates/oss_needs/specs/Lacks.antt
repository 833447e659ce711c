-- What the clauses of a task lack for what it asks of a cell, and the least that will do.
-- Read against: a task without a clause that stores into x and then loads it lacks `out(x)`; one that loads x and then stores lacks `inout(x)`; one that only
-- creates a task with `in(x)` lacks `weakin(x)`, and so does one that only waits for x. Under `in(x)` a task that stores into x lacks `inout(x)`, and `out(x)` where that
-- is its first use. Under `weakinout(x)` a task that loads x lacks `in(x)`; under `out(x)` one that loads x before it stores lacks `in(x)` too. Under
-- `reduction(+: x)` a task that folds into x and then stores into it lacks `inout(x)` in place of it, and one whose fold is by `|` alone `reduction(|: x)`. Under `in(x) reduction(+: x)`, which cannot be joined, a
-- task that does not use x lacks `weakin(x)` in place of both.
use Rattle.std.specs.Prelude.{Bool, true, false, ◌&&◌, ◌||◌, not, if◌then◌else◌, List, [], ◌∷◌, Option, Some, None}
use Rattle.oss_syntax.specs.declared.access.Mode.{Mode}
use Rattle.oss_syntax.specs.declared.access.Mode.TheVariants.{Read, Write, Fold}
use Rattle.oss_model.specs.Rights.{covers, op_eq}
use Rattle.oss_needs.specs.declared.clause.Clause.{Clause}
use Rattle.oss_needs.specs.declared.clause.Given.{Given}
use Rattle.oss_needs.specs.declared.clause.Given.TheVariants as given
use Rattle.oss_needs.specs.declared.demand.Demand.{Demand}
use Rattle.oss_needs.specs.declared.lack.Lack.{Lack}
use Rattle.oss_needs.specs.declared.lack.Lack.TheVariants as lack
use Rattle.oss_needs.specs.Demands.{mode_of, is_own, is_write, any_own, any_wait, begins_fresh, needs_old}

-- The modes are one.
abbrev pub mode_eq : Mode → Mode → Bool
mode_eq Read Read = true
mode_eq Write Write = true
mode_eq (Fold a) (Fold b) = op_eq a b
mode_eq _ _ = false

-- The least mode that will do for a mode and for others: the mode itself, where they are that one, and else Write.
abbrev pub with_mode : Mode → Option Mode → Option Mode
with_mode m None = Some m
with_mode m (Some n) = Some (if mode_eq m n then n else Write)

-- The modes of demands, for each that has one and passes a test.
abbrev pub mode_when : Bool → Option Mode → Option Mode → Option Mode
mode_when true (Some m) rest = with_mode m rest
mode_when _ _ rest = rest

abbrev pub least_mode : (Demand → Bool) → List Demand → Option Mode
least_mode test [] = None
least_mode test (d ∷ ds) = mode_when (test d) (mode_of d) (least_mode test ds)

abbrev pub every : Demand → Bool
every d = true

-- A clause of the mode, strong or weak, for these demands. It is fresh if it is to write and their first use needs nothing of what the cell was.
abbrev pub clause_for : List Demand → Mode → Bool → Clause
clause_for ds m strong = record { mode = m; strong = strong; fresh = is_write m && begins_fresh ds }

-- The least clause that will do for these demands, if there is any; to wait alone, a weak one to read.
abbrev pub least_of : List Demand → Option Mode → Option Clause
least_of ds (Some m) = Some (clause_for ds m (any_own ds))
least_of ds None = if any_wait ds then Some (record { mode = Read; strong = false; fresh = false }) else None

abbrev pub least : List Demand → Option Clause
least ds = least_of ds (least_mode every ds)

-- What stands in place of clauses that will not do: the least clause, and a weak one to read where nothing is asked for.
abbrev pub or_weak_read : Option Clause → Clause
or_weak_read None = record { mode = Read; strong = false; fresh = false }
or_weak_read (Some c) = c

-- The mode of a clause does not cover that of a demand.
abbrev pub refuses : Mode → Option Mode → Bool
refuses held None = false
refuses held (Some m) = not (covers held m)

-- The task itself touches the cell, and the clause is weak.
abbrev pub is_too_weak : Clause → Demand → Bool
is_too_weak c d = is_own d && not c.strong

-- The demand is not met by the clause, whatever the cell's mark is.
abbrev pub is_unmet : Clause → Demand → Bool
is_unmet c d = is_too_weak c d || refuses c.mode (mode_of d)

-- One of the demands is unmet; one is refused; one of the unmet is the task's own.
abbrev pub any_unmet : Clause → List Demand → Bool
any_unmet c [] = false
any_unmet c (d ∷ ds) = any_unmet c ds || is_unmet c d

abbrev pub any_refused : Mode → List Demand → Bool
any_refused m [] = false
any_refused m (d ∷ ds) = any_refused m ds || refuses m (mode_of d)

abbrev pub any_unmet_own : Clause → List Demand → Bool
any_unmet_own c [] = false
any_unmet_own c (d ∷ ds) = any_unmet_own c ds || (is_unmet c d && is_own d)

-- The clause says that the cell is written first, and it is not.
abbrev pub is_broken : Clause → List Demand → Bool
is_broken c ds = needs_old ds && (is_write c.mode && c.fresh)

-- A clause is not added with a mode of a reduction to one that reads or writes: there it is to write.
abbrev pub beside : Mode → Mode
beside (Fold op) = Write
beside m = m

-- The mode that is added: the least one for the unmet demands, and to read where the cell is not written first as the clause says.
abbrev pub added_mode : Clause → List Demand → Option Mode
added_mode c ds = mode_when (is_broken c ds) (Some Read) (least_mode (is_unmet c) ds)

abbrev pub adds : Clause → List Demand → Option Mode → Lack
adds c ds None = lack.Nothing
adds c ds (Some m) = lack.Adds (clause_for ds (beside m) (any_unmet_own c ds || is_broken c ds))

-- What a clause of a reduction lacks: where it refuses a demand it has to give way, and it becomes strong where the task itself folds.
abbrev pub lack_of_fold : Clause → List Demand → Lack
lack_of_fold c ds =
    if any_refused c.mode ds then lack.Replaces (or_weak_read (least ds))
    else if any_unmet c ds then lack.Adds (record { mode = c.mode; strong = true; fresh = false })
    else lack.Nothing

abbrev pub lack_of_clause : Mode → Clause → List Demand → Lack
lack_of_clause (Fold op) c ds = lack_of_fold c ds
lack_of_clause m c ds = adds c ds (added_mode c ds)

abbrev pub adds_all : Option Clause → Lack
adds_all None = lack.Nothing
adds_all (Some c) = lack.Adds c

-- What the clauses of a task lack for what it asks of the cell.
abbrev pub lack_of : Given → List Demand → Lack
lack_of given.Nothing ds = adds_all (least ds)
lack_of given.Mixed ds = lack.Replaces (or_weak_read (least ds))
lack_of (given.Says c) ds = lack_of_clause c.mode c ds

-- Two clauses as one: the language joins a mode to read with one to write, a strong with a weak one, and has the cell written first where both say so.
abbrev pub joined : Clause → Clause → Clause
joined c d = record { mode = if mode_eq c.mode d.mode then d.mode else Write; strong = c.strong || d.strong; fresh = c.fresh && d.fresh }

-- What the clauses say of the cell once what they lack is mended.
abbrev pub mended_by : Given → Lack → Option Clause
mended_by g (lack.Replaces c) = Some c
mended_by (given.Says d) (lack.Adds c) = Some (joined c d)
mended_by (given.Says d) lack.Nothing = Some d
mended_by g (lack.Adds c) = Some c
mended_by g lack.Nothing = None

abbrev pub mended : Given → List Demand → Option Clause
mended g ds = mended_by g (lack_of g ds)
