-- The slots with which a task starts, as its accesses give them.
-- Read against: a task with `reduction(+: x)` and `in(y)` starts with a slot for x alone, in which 0 stands.
use Rattle.std.specs.Prelude.{ℕ, Bool, true, if◌then◌else◌, List, [], ◌∷◌, Option, Some, None}
use Rattle.oss_syntax.specs.declared.access.Access.{Access}
use Rattle.oss_syntax.specs.declared.access.Mode.{Mode}
use Rattle.oss_syntax.specs.declared.access.Mode.TheVariants.{Fold}
use Rattle.oss_syntax.specs.declared.access.Op.{Op}
use Rattle.oss_model.specs.Rights.{in_access}
use Rattle.oss_slots.specs.Slots.{Slot, fresh}

-- The operator of a strong reduction: of `reduction(+: x)` it is `+`, and of `weakreduction(+: x)` there is none.
abbrev pub strong_op : Mode → Bool → Option Op
strong_op (Fold op) true = Some op
strong_op _ _ = None

-- The slot that an access adds, or else the one that stands: `reduction(+: x)` adds a slot for x.
abbrev pub added : Option Op → Option Slot → Option Slot
added (Some op) before = Some (fresh op)
added None before = before

-- The slot of a cell after these accesses have added theirs, where this one stood before.
abbrev pub slot_from : List Access → ℕ → Option Slot → Option Slot
slot_from [] c before = before
slot_from (a ∷ rest) c before = slot_from rest c (if in_access a c then added (strong_op a.mode a.strong) before else before)
