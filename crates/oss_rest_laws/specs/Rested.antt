-- What the words and slots of a table tell of a state, if nothing is under way.
-- Read against: main has created the task 7 with the cells 4 and 5, which has created the task 10 with cell 5, and then the task 12 with no cell. The
-- counts of 7, 10 and 12 are filled, and no other. The slots 0, 7, 10 and 12 hold the jobs of main and of the tasks at 0 ∷ [], 0 ∷ 0 ∷ [] and 1 ∷ [].
-- 7 is below 10, which it has created, and below 12, its later sibling. The task 7 has given up cell 5 if the word of entry 9 says that it is given up.
use Rattle.std.specs.Prelude.{◌≡◌, ◌≢◌, ◌<◌, ◌≤◌, ◌↔◌, ℕ, Bool, true, List, [], ◌∷◌, Option, Some}
use Rattle.oss_syntax.specs.declared.access.Mode.{Mode}
use Rattle.oss_model.specs.Agreement.{Setting}
use Rattle.oss_model.specs.Bodies.{Program, Start}
use Rattle.oss_model.specs.Context.{right_of}
use Rattle.oss_model.specs.Machine.{Task, State, At}
use Rattle.oss_model.specs.Moves.{Reached}
use Rattle.oss_model.specs.Order.{IsIn}
use Rattle.oss_model.specs.Rights.{Holds}
use Rattle.oss_roles.specs.Field.{Field, Parts}
use Rattle.oss_roles.specs.Numbers.{entry_number}
use Rattle.oss_roles.specs.Roles.{Site}
use Rattle.oss_roles.specs.Sights.{Sight, Telling}
use Rattle.oss_rest_laws.specs.Idle.{AreIdle}

-- The number is that of a task but main, among n entries: its count was filled.
pub record IsNumber {J : Type 0} (n : ℕ) (k : Parts J) (t : ℕ) : Type 0 where
  pub inside : t < n
  pub other : t ≢ 0
  pub filled : k.counts t ≢ 18446744073709551615

-- The slot of this number holds the job of the task of the state at this path, with its body.
pub record StandsIn {S J : Type 0} (is_job : Telling S J) (k : Parts J) (s : State S) (t : ℕ) (p : List ℕ) : Type 0 where
  pub task : Task S
  pub at_ : At s p task
  pub job : J
  pub last : Site → Option ℕ
  pub home : k.bodies t ≡ 1
  pub stands : k.jobs t ≡ Some job
  pub tells : is_job job t task.body last

-- The number of a task at this path, below another number.
pub record NumberBelow {J : Type 0} (n : ℕ) (k : Parts J) (path : ℕ → List ℕ) (p : List ℕ) (c : ℕ) : Type 0 where
  pub number : ℕ
  pub is : IsNumber n k number
  pub path_is : path number ≡ p
  pub below : number < c

-- The words and slots of n entries tell the state, where each number of a task has this path.
pub record Rested {S J : Type 0} (P : Program S) (main : Start S) (first : List ℕ) (is_job : Telling S J) (n : ℕ) (k : Parts J) (s : State S)
    (path : ℕ → List ℕ) : Type 0 where
  -- it is one of a run, and its memory is that of the cells
  pub setting : Setting main first
  pub reached : Reached P main first s
  pub cells : s.cells ≡ k.cells
  -- main's job is in slot 0, and that of each other task in the slot of its number
  pub main_path : path 0 ≡ []
  pub main_in : StandsIn is_job k s 0 []
  pub stands : (t : ℕ) → IsNumber n k t → StandsIn is_job k s t (path t)
  -- numbers and tasks but main go together
  pub child : (t : ℕ) → IsNumber n k t → (i : ℕ) × (p : List ℕ) × (path t ≡ i ∷ p)
  pub number : (i : ℕ) (p : List ℕ) (u : Task S) → At s (i ∷ p) u → (t : ℕ) × IsNumber n k t × (path t ≡ i ∷ p)
  pub one : (t v : ℕ) → IsNumber n k t → IsNumber n k v → path t ≡ path v → t ≡ v
  -- a creator's number is below that of what it has created, and there are all earlier siblings, each with a number below
  pub creator : (c i j : ℕ) (p : List ℕ) → IsNumber n k c → path c ≡ j ∷ i ∷ p → NumberBelow n k path (i ∷ p) c
  pub sibling : (c i j : ℕ) (p : List ℕ) → IsNumber n k c → path c ≡ j ∷ p → i < j → NumberBelow n k path (i ∷ p) c
  -- a task has given up a cell if the word of its entry there says so
  pub given : (t c : ℕ) (u : Task S) (mode : Mode) (strong : Bool) → IsNumber n k t → At s (path t) u → right_of u.body.start.context c ≡ Holds mode strong
      → (entry_number t (right_of u.body.start.context) c < n)
      × (((k.states (entry_number t (right_of u.body.start.context) c)).given ≡ true) ↔ IsIn c u.given)

-- If nothing is under way, the words and slots tell the state.
abbrev pub IdleFieldsTell : (S J : Type 0) → Telling S J → Type 0
IdleFieldsTell S J is_job = (P : Program S) (main : Start S) (first : List ℕ) (n : ℕ) (k : Parts J) (sights : List (Sight S))
    (f : Field P main first is_job n k sights)
    → AreIdle sights → n ≤ 16777216
    → (path : ℕ → List ℕ) × Rested P main first is_job n k f.state path
