-- Whether clauses will do for what a task asks of a cell: then the judge finds no fault of it, where nothing is lent and nothing was released.
-- Read against: under `out(x)` a store and then a load of x are met, and a load before the store is not: it is Unwritten. Under `weakin(x)` a task with
-- `in(x)` may be created, and a load is not met, nor is a task with `out(x)`. Under no clause nothing is met, not even a wait.
use Rattle.std.specs.Prelude.{Bool, true, false, ◌&&◌, not, if◌then◌else◌, List, [], ◌∷◌, Option, Some, None}
use Rattle.oss_syntax.specs.declared.fault.FaultKind.{FaultKind}
use Rattle.oss_model.specs.Context.{lacks_right}
use Rattle.oss_model.specs.Rights.{Right, NoRight, Holds, Free, Mark, Written, Reads, Writes, Folds, touch_fault, right_covers, first_mark}
use Rattle.oss_needs.specs.declared.clause.Clause.{Clause}
use Rattle.oss_needs.specs.declared.demand.Demand.{Demand}
use Rattle.oss_needs.specs.declared.demand.Demand.TheVariants.{Load, Store, Fold, Release, Wait, Create}
use Rattle.oss_needs.specs.Demands.{has_value}

-- No fault.
abbrev pub is_right : Option FaultKind → Bool
is_right None = true
is_right (Some kind) = false

-- The right that a clause gives; where there is none, the task has no right.
abbrev pub right_by : Option Clause → Right
right_by None = NoRight
right_by (Some c) = Holds c.mode c.strong

-- The mark with which the cell begins, and its mark behind these demands.
abbrev pub mark_by : Option Clause → Mark
mark_by None = Written
mark_by (Some c) = first_mark (Holds c.mode c.strong) c.fresh

abbrev pub mark_behind : Mark → List Demand → Mark
mark_behind m ds = if has_value ds then Written else m

-- The judge finds no fault of a demand, under this right and with this mark. Of a creation and a release the right has to cover the mode; it may be weak.
abbrev pub is_met : Right → Mark → Demand → Bool
is_met r m Load = is_right (touch_fault r Free m Reads)
is_met r m Store = is_right (touch_fault r Free m Writes)
is_met r m (Fold op) = is_right (touch_fault r Free m (Folds op))
is_met r m (Release mode) = right_covers r mode
is_met r m Wait = not (lacks_right r)
is_met r m (Create c) = right_covers r c.mode

-- Each of the demands is met.
abbrev pub all_met : Option Clause → List Demand → Bool
all_met g [] = true
all_met g (d ∷ ds) = all_met g ds && is_met (right_by g) (mark_behind (mark_by g) ds) d
