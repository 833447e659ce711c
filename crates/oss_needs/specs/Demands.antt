-- What a task asks of one cell, act by act.
-- The acts stand as lists do in the definitions of bodies: the last one first.
-- Read against: a task that stores into x, then loads it, and then creates a task with `in(x)`. Its demands are, the last first, the creation, the load and the
-- store. The store asks for the mode Write, the load for Read, both for the task itself, and the creation for Read, for a descendant. The load needs no
-- value from before the task, since the store gives one; and the first use of x is one by which it is written first.
use Rattle.std.specs.Prelude.{Bool, true, false, ◌&&◌, ◌||◌, not, List, [], ◌∷◌, Option, Some, None}
use Rattle.oss_syntax.specs.declared.access.Mode.{Mode}
use Rattle.oss_syntax.specs.declared.access.Mode.TheVariants.{Read, Write, Fold as Folding}
use Rattle.oss_needs.specs.declared.demand.Demand.{Demand}
use Rattle.oss_needs.specs.declared.demand.Demand.TheVariants.{Load, Store, Fold, Release, Wait, Create}

-- The mode for which a demand asks. To wait for a cell every mode will do.
abbrev pub mode_of : Demand → Option Mode
mode_of Load = Some Read
mode_of Store = Some Write
mode_of (Fold op) = Some (Folding op)
mode_of (Release m) = Some m
mode_of Wait = None
mode_of (Create c) = Some c.mode

-- The task itself touches the cell, so a weak clause will not do.
abbrev pub is_own : Demand → Bool
is_own Load = true
is_own Store = true
is_own (Fold op) = true
is_own _ = false

-- The mode is to write.
abbrev pub is_write : Mode → Bool
is_write Write = true
is_write _ = false

-- Behind it the cell has a value, whatever it was: a store, a fold, or a task that may write.
abbrev pub gives_value : Demand → Bool
gives_value Store = true
gives_value (Fold op) = true
gives_value (Create c) = is_write c.mode
gives_value _ = false

-- It needs the value that the cell has.
abbrev pub takes_value : Demand → Bool
takes_value Load = true
takes_value (Fold op) = true
takes_value _ = false

-- The cell is used: a release and a wait only name it.
abbrev pub is_use : Demand → Bool
is_use (Release m) = false
is_use Wait = false
is_use _ = true

-- It needs nothing of what the cell was: a store, or a task that writes it first.
abbrev pub writes_first : Demand → Bool
writes_first Store = true
writes_first (Create c) = is_write c.mode && c.fresh
writes_first _ = false

-- One of them gives the cell a value.
abbrev pub has_value : List Demand → Bool
has_value [] = false
has_value (d ∷ ds) = has_value ds || gives_value d

-- One of them needs a value that none before it has given.
abbrev pub needs_old : List Demand → Bool
needs_old [] = false
needs_old (d ∷ ds) = needs_old ds || (takes_value d && not (has_value ds))

-- The cell is used.
abbrev pub is_used : List Demand → Bool
is_used [] = false
is_used (d ∷ ds) = is_used ds || is_use d

-- The first use of the cell needs nothing of what it was.
abbrev pub begins_fresh : List Demand → Bool
begins_fresh [] = false
begins_fresh (d ∷ ds) = begins_fresh ds || (not (is_used ds) && writes_first d)

-- The task itself touches the cell.
abbrev pub any_own : List Demand → Bool
any_own [] = false
any_own (d ∷ ds) = any_own ds || is_own d

-- A wait names the cell.
abbrev pub is_waited : Demand → Bool
is_waited Wait = true
is_waited _ = false

abbrev pub any_wait : List Demand → Bool
any_wait [] = false
any_wait (d ∷ ds) = any_wait ds || is_waited d
