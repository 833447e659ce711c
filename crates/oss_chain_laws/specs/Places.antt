-- Where events stand in the order of the sequential run, with the cells that are given up put in: a cell of a task stands where the next
-- act of the task would, behind its last one.
-- Read against: main creates a task that writes x and prints; main's creation stands at 0 in front of main's path, the first act of the task at 0 in
-- front of the path 0, and its giving of x at 0 in front of that path behind its two acts: main's next act is at 1.
use Rattle.std.specs.Prelude.{◌≡◌, ◌⊎◌, ◌<◌, ℕ, List, ◌∷◌, length, reverse}
use Rattle.oss_model.specs.Order.{IsBefore}
use Rattle.oss_model.specs.Bodies.{Program, Act}
use Rattle.oss_model.specs.Machine.{Task, State, At}
use Rattle.oss_model.specs.Moves.{created_now}
use Rattle.oss_chain_laws.specs.Happenings.{Happening, Acting, Giving, Does}

-- Where an event stands: the number of tasks that its task has created by then, in front of the task's path, and
-- the number of the act. A cell that is given up stands behind all acts.
pub data IsPlaced {S : Type 0} (P : Program S) (s : State S) : Happening → List ℕ → ℕ → Type 0 where
  placed_act : {p : List ℕ} {n k : ℕ} {a : Act S} → Does P s p n k a → IsPlaced P s (Acting p n) (k ∷ p) n
  placed_cell : {p : List ℕ} {c : ℕ} {t : Task S} → At s p t → IsPlaced P s (Giving p c) (created_now P t.body ∷ p) (length t.body.found)

-- The first place is before the second: its point is, or both have one point and its number is smaller.
abbrev pub IsEarlier : List ℕ → ℕ → List ℕ → ℕ → Type 0
IsEarlier ys m xs n = IsBefore (reverse ys) (reverse xs) ⊎ ((ys ≡ xs) × (m < n))

-- The second event stands before the first.
pub record InOrder {S : Type 0} (P : Program S) (s : State S) (e f : Happening) : Type 0 where
  pub place : List ℕ
  pub number : ℕ
  pub placed : IsPlaced P s e place number
  pub earlier : List ℕ
  pub smaller : ℕ
  pub before : IsPlaced P s f earlier smaller
  pub ordered : IsEarlier earlier smaller place number
