-- What the judge holds for a cell of a task, told by what the walks over the free run know of it.
-- Read against: a task with `out(x)` that has stored into x and then created a child with `in(x)`. It has asked the creation and the store, so its mark is Written; and x is lent for
-- reading, since the child is the first that has it, and none may write it. A load is right there. A store is Lent, since that child hinders it. Once x is released, each touch is Released.
use Rattle.std.specs.Prelude.{Bool, true, false, if◌then◌else◌, List, Option, Some, None}
use Rattle.oss_syntax.specs.declared.fault.FaultKind.{FaultKind}
use Rattle.oss_syntax.specs.declared.fault.FaultKind.TheVariants as fault
use Rattle.oss_model.specs.Context.{Entry, or_else}
use Rattle.oss_model.specs.Rights.{Free, Folds, Lending, Mark, Reading, Reads, Released, Right, Touch, Writes, Writing, Written, touch_fault}
use Rattle.oss_needs.specs.declared.clause.Clause.{Clause}
use Rattle.oss_needs.specs.declared.demand.Demand.{Demand}
use Rattle.oss_needs.specs.declared.demand.Demand.TheVariants.{Fold, Load, Store}
use Rattle.oss_needs.specs.Meeting.{mark_behind, mark_by, right_by}
use Rattle.oss_lent_cells.specs.declared.holder.Holder.{Holder}
use Rattle.oss_lent_cells.specs.declared.holder.Lent.{Lent}

-- What is lent of a cell, by whether a child may do more than read it; and by whom it is had.
abbrev pub lent_to_one : Option Holder → Lending
lent_to_one None = Reading
lent_to_one (Some writer) = Writing

abbrev pub lending_of : Option Lent → Lending
lending_of None = Free
lending_of (Some l) = lent_to_one l.writer

-- A right, which may be released.
abbrev pub right_now : Bool → Right → Right
right_now true r = Released
right_now false r = r

-- What the judge holds for a cell of which clauses say this, behind these demands, where it is released or not, and lent so.
abbrev pub entry_by : Option Clause → List Demand → Bool → Option Lent → Entry
entry_by g ds released lent = record { right = right_now released (right_by g); lent = lending_of lent; mark = mark_behind (mark_by g) ds }

-- What a touch asks of its cell.
abbrev pub demand_by : Touch → Demand
demand_by Reads = Load
demand_by Writes = Store
demand_by (Folds op) = Fold op

-- No child hinders.
abbrev pub is_free : Option Holder → Bool
is_free None = true
is_free (Some child) = false

-- The fault where one does.
abbrev pub lent_fault : Option Holder → Option FaultKind
lent_fault None = None
lent_fault (Some child) = Some fault.Lent

-- The fault of a touch, by its reasons in their order: the cell is released; the clauses do not cover the touch; a child hinders it; the cell is unwritten.
abbrev pub fault_by : Bool → Right → Option Holder → Mark → Touch → Option FaultKind
fault_by released r child m t =
    if released then Some fault.Released else or_else (touch_fault r Free Written t) (or_else (lent_fault child) (touch_fault r Free m t))
