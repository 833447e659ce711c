-- One state of the machine after another, if no task was made: the same tasks, which have gone on.
-- Read against: after a store by the task at 0 ∷ [] its body has one answer more, and each other task is the one that it was.
use Rattle.std.specs.Prelude.{◌≡◌, ◌≢◌, ℕ, true, List, ◌∷◌}
use Rattle.oss_model.specs.Bodies.{Program, Start}
use Rattle.oss_model.specs.Machine.{Task, State, At, find}
use Rattle.oss_model.specs.Moves.{is_ended, GoesOn, Reached}

-- One task is another, and no other task has changed.
pub record Turned {S : Type 0} (s n : State S) (p : List ℕ) (t : Task S) : Type 0 where
  pub own : At n p t
  pub others : (q : List ℕ) → q ≢ p → find n.tasks q ≡ find s.tasks q

-- The tasks of the second state are those of the first, which have gone on.
pub record Continues {S : Type 0} (P : Program S) (s n : State S) : Type 0 where
  pub forth : (q : List ℕ) (u : Task S) → At s q u → (v : Task S) × At n q v × GoesOn u v × (is_ended P u.body ≡ true → is_ended P v.body ≡ true)
  pub back : (q : List ℕ) (v : Task S) → At n q v → (u : Task S) × At s q u × GoesOn u v

-- The state with this task in its place, and these cells.
abbrev pub with_task : {S : Type 0} → Task S → List ℕ → State S → State S
with_task t cells s = record { cells = cells; tasks = t ∷ s.tasks }

-- The machine came from the first state to the second, and of its tasks only this one has changed.
pub record Went {S : Type 0} (P : Program S) (main : Start S) (first : List ℕ) (s : State S) (p : List ℕ) (n : State S) (t : Task S) : Type 0 where
  pub reached : Reached P main first n
  pub continues : Continues P s n
  pub turned : Turned s n p t
