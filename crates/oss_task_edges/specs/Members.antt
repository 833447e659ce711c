-- The members of groups, as they are kept: a member knows the one that came into its group before it, so the newest one gives them all.
-- Read against: of the children 1, 2 and 3, which read x, where 2 and 3 read y too, the members are 1, then 2 with the older 1, 2 without an older one, 3 with the older 2 of x, and 3 with the older 2 of y.
use Rattle.std.specs.Prelude.{◌≡◌, ◌≤◌, ℕ, suc, ◌&&◌, Bool, true, false, List, [], ◌∷◌, if◌then◌else◌, slice_get, Option, Some, None}
use Rattle.oss_syntax.specs.declared.access.Mode.{Mode}
use Rattle.oss_syntax.specs.declared.access.Mode.TheVariants.{Fold, Read, Write}
use Rattle.oss_syntax.specs.declared.access.Range.{Range}
use Rattle.oss_model.specs.Rights.{op_eq}
use Rattle.oss_task_edges.specs.declared.groups.Groups.{Groups}
use Rattle.oss_task_edges.specs.declared.groups.Spot.{Spot}
use Rattle.oss_task_edges.specs.declared.members.Member.{Member}
use Rattle.oss_task_edges.specs.declared.part.Part.{Part}

-- how many members stand up to a place, at least: none up to no place, and four up to place 3
abbrev pub height : Option ℕ → ℕ
height None = 0
height (Some at) = suc at

-- The members stand from this place on, each behind those that it knows.
abbrev pub AreBehind : ℕ → List Member → Type 0
AreBehind from [] = Unit {0}
AreBehind from (m ∷ rest) = (height m.older ≤ from) × AreBehind (suc from) rest

-- the member at a place, if there is one
abbrev pub member_at : List Member → Option ℕ → Option Member
member_at members None = None
member_at members (Some at) = slice_get members at

-- The group of which the newest member stands here: that one first.
pub data IsChain (members : List Member) : Option ℕ → List Member → Type 0 where
  none : IsChain members None []
  some : {at : ℕ} {m : Member} {rest : List Member} → slice_get members at ≡ Some m → IsChain members m.older rest → IsChain members (Some at) (m ∷ rest)

-- the part for a member
abbrev pub part_of : Range → Bool → Member → Part
part_of range strong m = record { from = m.child; range = range; strong = m.strong && strong }

-- neighbours of these modes are of one group
abbrev pub modes_together : Mode → Mode → Bool
modes_together Read Read = true
modes_together (Fold a) (Fold b) = op_eq a b
modes_together _ _ = false

-- what is kept of the group before one of this mode
abbrev pub kept_before : Mode → Option ℕ → Option ℕ
kept_before Write before = None
kept_before _ before = before

-- where an access of this mode comes to stand behind the last group of a list, whose newest member is this one
abbrev pub spot_behind : Groups → Option Member → Mode → Spot
spot_behind g None mode = record { before = None; own = None }
spot_behind g (Some m) mode = if modes_together m.mode mode then record { before = g.before; own = Some g.now } else record { before = Some g.now; own = None }

-- the same at the end of a list of which this is kept, or nothing
abbrev pub spot_in : List Member → Option Groups → Mode → Spot
spot_in members None mode = record { before = None; own = None }
spot_in members (Some g) mode = spot_behind g (member_at members (Some g.now)) mode
