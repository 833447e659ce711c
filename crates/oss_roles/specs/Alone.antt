-- What a body does by itself between two calls of the field: acts that change no cell and make no task.
-- Read against: a body stands before a tick, a print and the load of cell 4. Between two calls it may do the tick and the print; the load is
-- a call.
use Rattle.std.specs.Prelude.{ℕ, false, List, ◌∷◌}
use Rattle.oss_model.specs.Bodies.{Program, Act, Body}
use Rattle.oss_model.specs.Bodies.Act.{Load, Store, Folded, Created, Fault, Over}
use Rattle.oss_model.specs.Machine.{State, IsWaitMet}
use Rattle.oss_model.specs.Moves.{act_now, created_now}

-- The act changes the body alone.
abbrev pub IsOwnAct : {S : Type 0} → Act S → Type 0
IsOwnAct (Load c) = ⊥
IsOwnAct (Store c v) = ⊥
IsOwnAct (Folded c op v false) = ⊥
IsOwnAct (Created o false) = ⊥
IsOwnAct (Fault kind line key) = ⊥
IsOwnAct Over = ⊥
IsOwnAct _ = Unit {0}

-- A body that has gone on by one act.
abbrev pub with_answer : {S : Type 0} → ℕ → Body S → Body S
with_answer v b = record { start = b.start; found = v ∷ b.found }

-- The body has gone on by itself; what its waiting acts waited for has happened in the state.
pub data GoesAlone {S : Type 0} (P : Program S) (s : State S) (p : List ℕ) (b : Body S) : Body S → Type 0 where
  rests : GoesAlone P s p b b
  acts_on : {x : Body S} → GoesAlone P s p b x → IsOwnAct (act_now P x) → IsWaitMet P s p (created_now P x) (act_now P x)
      → GoesAlone P s p b (with_answer 0 x)
