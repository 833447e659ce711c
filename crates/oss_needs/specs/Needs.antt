-- All demands of a task on one cell, in a form that can be kept.
-- Read against: behind a store and then a load, the own mode is Write, no other one is asked for, the cell was used, has a value, and needed no old one, and
-- its first use needs nothing of what it was.
use Rattle.std.specs.Prelude.{◌≡◌, Bool, true, false, not, List, Option, Some, None}
use Rattle.oss_syntax.specs.declared.access.Mode.{Mode}
use Rattle.oss_needs.specs.declared.demand.Demand.{Demand}
use Rattle.oss_needs.specs.declared.need.Need.{Need}
use Rattle.oss_needs.specs.Demands.{is_own, any_wait, has_value, needs_old, is_used, begins_fresh}
use Rattle.oss_needs.specs.Lacks.{least_mode}

-- The demand is for descendants alone.
abbrev pub is_others : Demand → Bool
is_others d = not (is_own d)

-- There is a mode.
abbrev pub is_there : Option Mode → Bool
is_there None = false
is_there (Some m) = true

-- The need is of these demands.
pub record IsNeed (ds : List Demand) (n : Need) : Type 0 where
  pub own : n.own ≡ least_mode is_own ds
  pub others : n.others ≡ least_mode is_others ds
  pub waited : n.waited ≡ any_wait ds
  pub valued : n.valued ≡ has_value ds
  pub old : n.old ≡ needs_old ds
  pub used : n.used ≡ is_used ds
  pub fresh : n.fresh ≡ begins_fresh ds
