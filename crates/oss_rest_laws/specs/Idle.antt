-- Seats that have nothing under way.
-- Read against: a seat that has put back every job that it took, delivered what it held and joined what was left has nothing under way, whatever it
-- has read before. One that holds the job of a task has, and so has one that has filled the count of a task and not opened it.
use Rattle.std.specs.Prelude.{◌≡◌, ℕ, List, []}
use Rattle.oss_roles.specs.Field.{Sits}
use Rattle.oss_roles.specs.Sights.{Sight}

-- The seat holds no job, makes no task, has joined no slot whose entry is not given up yet, and owes no count down.
pub record IsIdle {S : Type 0} (v : Sight S) : Type 0 where
  pub bears : v.bears ≡ []
  pub makes : v.makes ≡ []
  pub joined : v.joined ≡ []
  pub owes : v.owes ≡ []

-- So it is with each seat.
abbrev pub AreIdle : {S : Type 0} → List (Sight S) → Type 0
AreIdle sights = (id : ℕ) (v : Sight _) → Sits sights id v → IsIdle v
