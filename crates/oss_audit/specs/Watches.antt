-- What is kept of the tasks on the way to the one that acts, and what an act makes of it.
-- Read against: main alone, behind a store of cell 2, has touched cell 2; behind the creation of a task with the clause `out(x)`, that task is kept with the cell of `x` declared
-- and none touched, and main above it, with one task created; behind the end of the task main alone is kept, what the task has touched is touched for main too, and what it has not is told.
use Rattle.std.specs.Prelude.{◌≡◌, ◌<◌, ◌⊎◌, ℕ, ◌+◌, ◌==◌, ◌||◌, false, List, [], ◌∷◌, ◌++◌, length}
use Rattle.oss_syntax.specs.declared.access.Access.{Access}
use Rattle.oss_model.specs.Context.{in_clauses}
use Rattle.oss_body.specs.declared.act.Act.{Act}
use Rattle.oss_body.specs.declared.act.Act.TheVariants as acts
use Rattle.oss_audit.specs.declared.begun.Begun.{Begun}
use Rattle.oss_audit.specs.declared.unused.Unused.{Unused}
use Rattle.oss_audit.specs.declared.watch.Watch.{Watch}
use Rattle.oss_pieces.specs.CellSets.{has}
use Rattle.oss_audit.specs.Runs.{HasRuns}

-- Main at the beginning.
pub record IsFirst (main : Begun) : Type 0 where
  pub point : main.point ≡ 0 ∷ []
  pub created : main.created ≡ 0
  pub declared : (c : ℕ) → has main.declared c ≡ false
  pub touched : (c : ℕ) → has main.touched c ≡ false
  pub told : main.told.items ≡ []

-- The next task of this one at its beginning, with these accesses.
pub record IsChild (creator : Begun) (accesses : List Access) (child : Begun) : Type 0 where
  pub point : child.point ≡ creator.point ++ creator.created ∷ []
  pub created : child.created ≡ 0
  pub declared : (c : ℕ) → has child.declared c ≡ in_clauses accesses c
  pub touched : (c : ℕ) → has child.touched c ≡ false
  pub told : child.told.items ≡ []

-- A task behind the end of one that it created.
pub record IsTaken (creator child after : Begun) : Type 0 where
  pub own : List Unused
  pub runs : HasRuns child.point child.declared child.touched 1048576 own
  pub told : after.told.items ≡ creator.told.items ++ own ++ child.told.items
  pub touched : (c : ℕ) → c < 1048576 → has after.touched c ≡ (has creator.touched c || has child.touched c)
  pub point : after.point ≡ creator.point
  pub created : after.created ≡ creator.created
  pub declared : after.declared ≡ creator.declared

-- The task that acts has touched one cell more.
pub record IsTouched (cell : ℕ) (old new : Watch) : Type 0 where
  pub touched : (c : ℕ) → c < 1048576 → has new.top.touched c ≡ (cell == c || has old.top.touched c)
  pub rest : new ≡ record old { top = record old.top { touched = new.top.touched } }

-- The task that acts has created one, with these accesses, which acts.
pub record IsBegun (accesses : List Access) (old new : Watch) : Type 0 where
  pub child : IsChild old.top accesses new.top
  pub above : new.above ≡ old.above ++ record old.top { created = old.top.created + 1 } ∷ []

-- The task that acts has ended, and its creator acts; or it is main.
abbrev pub IsEnded : Watch → Watch → Type 0
IsEnded old new = ((creator : Begun) × (old.above ≡ new.above ++ creator ∷ []) × IsTaken creator old.top new.top) ⊎ ((old.above ≡ []) × (new ≡ old))

-- What an act makes of it.
abbrev pub IsNoted : Act → Watch → Watch → Type 0
IsNoted (acts.Load c) old new = IsTouched c old new
IsNoted (acts.Store c v) old new = IsTouched c old new
IsNoted (acts.Fold c op v slot) old new = IsTouched c old new
IsNoted (acts.Create creation included) old new = IsBegun creation.order.accesses old new
IsNoted acts.End old new = IsEnded old new
IsNoted _ old new = new ≡ old

-- A task that creates has created fewer than 65,535, and its point is short enough to be one of a task.
abbrev pub HasRoom : Act → Begun → Type 0
HasRoom (acts.Create creation included) b = (length b.point < 66) × (b.created < 65535)
HasRoom _ b = Unit {0}
