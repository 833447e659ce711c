-- The bodies of all tasks of a state in a list: what a core may keep of the state.
-- Read against: main has created a and b, and a has created c. The lists main, a, b, c and main, a, c, b list them; a, main, b, c does not, nor does
-- main, b, a, c, nor main, a, b. A core of the first list keeps them under the numbers 0 to 3, and its dependency system has an entry for each of the numbers 1 to 3.
use Rattle.std.specs.Prelude.{◌≡◌, ◌<◌, ◌↔◌, ℕ, Bool, true, false, List, ◌∷◌, [], length, slice_get, Some}
use Rattle.oss_code.specs.declared.code.CodeParts.{CodeParts}
use Rattle.oss_core.specs.Kept.{own}
use Rattle.oss_core.specs.Moving.{AreSound}
use Rattle.oss_core.specs.Standing.{IsNumbered, StandsFor}
use Rattle.oss_deps.specs.declared.opened.Open.{Open}
use Rattle.oss_judge.specs.Joined.{IsRising, held_right}
use Rattle.oss_machine.specs.Frames.{CodeScript}
use Rattle.oss_machine.specs.Machines.{asks}
use Rattle.oss_model.specs.Agreement.{Setting}
use Rattle.oss_model.specs.Bodies.{Body, Start}
use Rattle.oss_model.specs.Context.{right_of}
use Rattle.oss_model.specs.Machine.{Task, State, At}
use Rattle.oss_model.specs.Moves.{Reached}
use Rattle.oss_model.specs.Order.{IsIn}
use Rattle.oss_model.specs.Rights.{right_from}
use Rattle.oss_syntax.specs.declared.access.Access.{Access}

-- The bodies are those of all tasks of the state, each once: main's first, a creator's before those of the tasks that it has created, and siblings'
-- in the order of their creation.
pub record AreListed (s : State CodeScript) (bodies : List (Body CodeScript)) : Type 0 where
  pub main : IsNumbered own bodies 0 []
  pub there : (v : ℕ) (b : Body CodeScript) → slice_get bodies v ≡ Some b → (t : Task CodeScript) × At s b.start.path t × (t.body ≡ b)
  pub back : (p : List ℕ) (t : Task CodeScript) → At s p t → (v : ℕ) × IsNumbered own bodies v p
  pub one : (v w : ℕ) (p : List ℕ) → IsNumbered own bodies v p → IsNumbered own bodies w p → v ≡ w
  pub creator : (v c j : ℕ) (p : List ℕ) → IsNumbered own bodies v p → IsNumbered own bodies c (j ∷ p) → v < c
  pub order : (v c i j : ℕ) (p : List ℕ) → IsNumbered own bodies v (i ∷ p) → IsNumbered own bodies c (j ∷ p) → i < j → v < c

-- These are the accesses of the tasks of these bodies, by their numbers.
abbrev pub AreAccessesOf : List (Body CodeScript) → (ℕ → List Access) → Type 0
AreAccessesOf bodies accesses = (v : ℕ) (b : Body CodeScript) → slice_get bodies v ≡ Some b
    → IsRising (accesses v) × ((c : ℕ) → right_from false (accesses v) c ≡ held_right (right_of b.start.context c))

-- So the tasks of these bodies have given up cells of the state, and no other number has.
pub record AreGivenBy (s : State CodeScript) (bodies : List (Body CodeScript)) (given : ℕ → ℕ → Bool) : Type 0 where
  pub each : (v : ℕ) (b : Body CodeScript) (t : Task CodeScript) → slice_get bodies v ≡ Some b → At s b.start.path t → (c : ℕ)
      → (IsIn c t.given ↔ given v c ≡ true)
  pub within : (v c : ℕ) → given v c ≡ true → v < length bodies

-- Listed bodies stand for the state, with some entries of a dependency system.
abbrev pub ListedTasksStand : Type 0
ListedTasksStand = (code : CodeParts) (main : Start CodeScript) (first : List ℕ) (s : State CodeScript) (bodies : List (Body CodeScript))
    (accesses : ℕ → List Access) (given : ℕ → ℕ → Bool)
    → Setting main first → Reached (asks code) main first s
    → AreListed s bodies → AreAccessesOf bodies accesses → AreGivenBy s bodies given
    → ((opens : List Open) × AreSound (asks code) own (λ b. Unit {0}) bodies opens given) × StandsFor own bodies given s.cells s
