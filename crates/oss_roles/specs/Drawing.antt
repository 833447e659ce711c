-- What seats have drawn for new tasks: an entry that is drawn has no role, and one seat alone has drawn it, until the fill of a count gives it
-- its role. It stands beside the rule of a field, which names the roles after each step.
-- Read against: a seat draws 7, 8 and 9 for the task 7 of `Roles`. Until it fills the count of 7 none of the three has a role, whatever the other
-- seats do; then all three have theirs, and it has drawn nothing.
use Rattle.std.specs.Prelude.{◌≡◌, ◌⊎◌, ℕ, List, [], ◌∷◌, ◌++◌, set, Option, None}
use Rattle.oss_words.specs.Views.{Among}
use Rattle.oss_roles.specs.Field.{Sits}
use Rattle.oss_roles.specs.Roles.{Role}
use Rattle.oss_roles.specs.Sights.{Sight}

-- What is drawn has no role, and no other seat has drawn it.
pub record AreDrawn {S : Type 0} (role : ℕ → Option Role) (sights : List (Sight S)) : Type 0 where
  pub none : (id : ℕ) (v : Sight S) → Sits sights id v → (e : ℕ) → Among e v.drawn → role e ≡ None
  pub one : (id j : ℕ) (v x : Sight S) → Sits sights id v → Sits sights j x → (e : ℕ) → Among e v.drawn → Among e x.drawn → id ≡ j

-- The entry has no role, and no seat has drawn it.
pub record IsFree {S : Type 0} (role : ℕ → Option Role) (sights : List (Sight S)) (e : ℕ) : Type 0 where
  pub none : role e ≡ None
  pub undrawn : (j : ℕ) (x : Sight S) → Sits sights j x → Among e x.drawn → ⊥

-- It is so where one seat has drawn nothing: at the start, and of a field at rest.
abbrev pub NothingIsDrawn : Type 0 → Type 0
NothingIsDrawn S = (role : ℕ → Option Role) (v : Sight S) → v.drawn ≡ [] → AreDrawn role (v ∷ [])

-- A step of a seat that gives no role and draws only what is free keeps it: each but the fill of a count. A seat that is joined hands over what it
-- has drawn in two such steps.
abbrev pub DrawsKeep : Type 0 → Type 0
DrawsKeep S = (role : ℕ → Option Role) (sights : List (Sight S)) (id : ℕ) (v w : Sight S)
    → Sits sights id v
    → ((e : ℕ) → Among e w.drawn → Among e v.drawn ⊎ IsFree role sights e)
    → AreDrawn role sights → AreDrawn role (set sights id w)

-- The fill of a count keeps it, if each entry that gets a role was drawn by the seat, and is not drawn any more.
abbrev pub PlansDraw : Type 0 → Type 0
PlansDraw S = (role role' : ℕ → Option Role) (sights : List (Sight S)) (id : ℕ) (v w : Sight S)
    → Sits sights id v
    → ((e : ℕ) → (role' e ≡ role e) ⊎ Among e v.drawn)
    → ((e : ℕ) → Among e w.drawn → Among e v.drawn × (role' e ≡ None))
    → AreDrawn role sights → AreDrawn role' (set sights id w)

-- A new seat has drawn nothing.
abbrev pub NewSeatsDraw : Type 0 → Type 0
NewSeatsDraw S = (role : ℕ → Option Role) (sights : List (Sight S)) (x : Sight S)
    → x.drawn ≡ [] → AreDrawn role sights → AreDrawn role (sights ++ x ∷ [])
