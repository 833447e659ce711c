-- How much is left to do in a state: a number that falls with each move, so every run is finite. A task counts for what is left of its body,
-- where each unit is more than all cells that a new task may have, and for the cells that it has not given up.
-- Read against: in a memory of 2 cells a task with both, whose body counts for 3, counts for 3 * 3 + 2; when its last act is done, so that its
-- body counts for nothing, for 2; and behind the let of one cell for 1. A task whose body counts for 5, and which creates one with both cells,
-- counts for 15; behind it the bodies of both count together for 4 at most, so the two tasks for 4 * 3 + 2.
use Rattle.std.specs.Prelude.{◌≡◌, ◌≢◌, ◌<◌, ◌≤◌, ℕ, zero, suc, ◌+◌, ◌==◌, Bool, true, false, ◌&&◌, ◌||◌, not, List, [], ◌∷◌, length}
use Rattle.oss_model.specs.Order.{IsIn}
use Rattle.oss_model.specs.Rights.{Right, Holds}
use Rattle.oss_model.specs.Context.{right_of}
use Rattle.oss_model.specs.Bodies.{Program, Start}
use Rattle.oss_model.specs.Machine.{Task, State, At}
use Rattle.oss_model.specs.Moves.{Moved, opening}
use Rattle.oss_model.specs.Sequence.{Running, Sequential}
use Rattle.oss_model.specs.Agreement.{Setting, Agrees}
use Rattle.oss_model.specs.Termination.{IsLively}
use Rattle.oss_model.specs.Potential.{times, one_if, potential}
use Rattle.oss_wave_laws.specs.Rounds.{weighed}

-- There is a right.
abbrev pub is_held : Right → Bool
is_held (Holds mode strong) = true
is_held _ = false

-- The cell is one of these.
abbrev pub is_given : List ℕ → ℕ → Bool
is_given [] c = false
is_given (d ∷ ds) c = d == c || is_given ds c

-- The task has the cell, and has not given it up.
abbrev pub is_owed : {S : Type 0} → Task S → ℕ → Bool
is_owed t c = is_held (right_of t.body.start.context c) && not (is_given t.given c)

-- How many of the first so many cells the task has and has not given up.
unfoldable pub owed : {S : Type 0} → Task S → ℕ → ℕ
owed t zero = 0
owed t (suc n) = one_if (is_owed t n) + owed t n

-- What a task counts for in a memory of so many cells.
unfoldable pub task_left : {S : Type 0} {P : Program S} → IsLively P → ℕ → Task S → ℕ
task_left lively n t = times (potential lively t.body) (n + 1) + owed t n

-- What is left to do in a state.
unfoldable pub left : {S : Type 0} {P : Program S} → IsLively P → State S → ℕ
left lively s = weighed (task_left lively (length s.cells)) [] s.tasks

-- The tasks have different paths.
abbrev pub AreApart : {S : Type 0} → List (Task S) → Type 0
AreApart [] = Unit {0}
AreApart (t ∷ ts) = ((u : Task _) → IsIn u ts → u.body.start.path ≢ t.body.start.path) × AreApart ts

-- These are the tasks of the state, each once, in any order.
pub record AreTasks {S : Type 0} (s : State S) (list : List (Task S)) : Type 0 where
  pub all : (p : List ℕ) (t : Task S) → At s p t → IsIn t list
  pub only : (t : Task S) → IsIn t list → At s t.body.start.path t
  pub once : AreApart list

-- The weights of these tasks together.
unfoldable pub summed : {S : Type 0} → (Task S → ℕ) → List (Task S) → ℕ
summed weight [] = 0
summed weight (t ∷ ts) = weight t + summed weight ts

-- Weights may be summed over the tasks of a state in whatever order they are listed.
abbrev pub WeightsAreSummed : Type 0 → Type 0
WeightsAreSummed S = (s : State S) (list : List (Task S)) (weight : Task S → ℕ) → AreTasks s list → weighed weight [] s.tasks ≡ summed weight list

-- Each move leaves less to do.
abbrev pub MovesFall : Type 0 → Type 0
MovesFall S = (P : Program S) (main : Start S) (cells : List ℕ) (z : Running S) (s n : State S) (lively : IsLively P)
    → Setting main cells → Sequential P main cells z → Agrees P main cells z s → Moved P s n → left lively n < left lively s

-- A state to which so many moves lead from the beginning.
pub data ReachedIn {S : Type 0} (P : Program S) (main : Start S) (cells : List ℕ) : ℕ → State S → Type 0 where
  opens_in : ReachedIn P main cells zero (opening main cells)
  moves_in : {k : ℕ} {s n : State S} → ReachedIn P main cells k s → Moved P s n → ReachedIn P main cells (suc k) n

-- So no run has more moves than are left at the beginning.
abbrev pub EveryRunIsFinite : Type 0 → Type 0
EveryRunIsFinite S = (P : Program S) (main : Start S) (cells : List ℕ) (k : ℕ) (s : State S) (lively : IsLively P)
    → Setting main cells → ReachedIn P main cells k s → k + left lively s ≤ left lively (opening main cells)
