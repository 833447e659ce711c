-- Turns: how one worker runs a program by priorities, one task at a time, and in which order its tasks begin. The clause `priority` orders tasks that may both run
-- (OmpSs-2, task directive), and the task that an ended one has made able to run goes first (the immediate successor of the Nanos6 runtime); where a turn ends, and what
-- decides among equals, is this language's own.
-- Read against `long x, y, z;` and a main that creates 0.0 with out(x) priority(1), 0.1 with out(y) priority(5), 0.2 with in(x), and 0.3 with out(z) priority(3). The first turn is
-- main's, which ends in it. The candidates behind it are 0.0, 0.1 and 0.3, and none is a successor, since none was there at the turn's start: so the next turn is that of 0.1, then that of 0.3,
-- then that of 0.0. Behind it 0.2 is a candidate, and its successor. The order is 0, 0.1, 0.3, 0.0, 0.2. With priority(9) at 0.0 the second turn is that of 0.0; behind it 0.2
-- is its successor, and goes before 0.1, whatever their priorities: the order is 0, 0.0, 0.2, 0.1, 0.3. Where main's first act is a fault, the first turn has no step, no task is a candidate
-- behind it, and the order is empty.
use Rattle.std.specs.Prelude.{◌≡◌, ◌≢◌, ◌⊎◌, ℕ, zero, suc, ℤ, pos, ◌<ℤ◌, List, [], ◌∷◌, ◌++◌, map, Option, Some, None}
use Rattle.oss_model.specs.Order.{IsEarlierKey, IsIn, written}
use Rattle.oss_model.specs.Bodies.{Program, Start}
use Rattle.oss_model.specs.Machine.{Task, State, At, find}
use Rattle.oss_model.specs.Moves.{CanStep, opening}
use Rattle.oss_wave_laws.specs.Waves.{Takes}
use Rattle.oss_wave_laws.specs.Passes.{GivenUp, Passes}

-- The priority of the task at this path: the value of the clause `priority` at its creation, with its sign, and 0 without one. Main has 0.
abbrev pub priority_of : {S : Type 0} → List ℕ → Task S → ℤ
priority_of [] t = pos 0
priority_of (k ∷ p) t = t.body.start.order.priority

-- A turn of the task: it makes so many steps, until none of its steps can be made; then come passes, until one does nothing.
pub record Turn {S : Type 0} (P : Program S) (s : State S) (p : List ℕ) (steps : ℕ) (n : State S) : Type 0 where
  pub middle : State S
  pub takes : Takes P p s steps middle
  pub no_more : (t : Task S) → CanStep P middle p t → ⊥
  pub lists : List (List GivenUp)
  pub behind : Passes P middle lists n

-- A candidate: a task of which a step can be made.
pub record Candidate {S : Type 0} (P : Program S) (s : State S) (q : List ℕ) : Type 0 where
  pub task : Task S
  pub can : CanStep P s q task

-- A successor of a turn from the first state to the second: a candidate that was a task at the turn's start, of which no step could be made then.
pub record Successor {S : Type 0} (P : Program S) (s n : State S) (q : List ℕ) : Type 0 where
  pub candidate : Candidate P n q
  pub before : Task S
  pub was : At s q before
  pub waited : Candidate P s q → ⊥

-- The first task goes before the second: it has a greater priority; or the same, and stands before it in point order.
abbrev pub GoesBefore : {S : Type 0} → State S → List ℕ → List ℕ → Type 0
GoesBefore n q r = (t u : Task _) → At n q t → At n r u → (priority_of r u <ℤ priority_of q t) ⊎ ((priority_of q t ≡ priority_of r u) × IsEarlierKey q r)

-- The task is one of these, and goes before each other of them.
abbrev pub IsFirstOf : {S : Type 0} → State S → (List ℕ → Type 0) → List ℕ → Type 0
IsFirstOf n these q = these q × ((r : List ℕ) → these r → r ≢ q → GoesBefore n q r)

-- The next turn, behind one from the first state to the second, is that of this task: of the first of the successors, or without a successor of the first of the candidates.
pub data IsNext {S : Type 0} (P : Program S) (s n : State S) (q : List ℕ) : Type 0 where
  is_successor : IsFirstOf n (Successor P s n) q → IsNext P s n q
  is_candidate : ((r : List ℕ) → Successor P s n r → ⊥) → IsFirstOf n (Candidate P n) q → IsNext P s n q

-- The task, where it had found no answer, and so made no step, before a turn in which it made one.
abbrev pub first_step : List ℕ → List ℕ → ℕ → List (List ℕ)
first_step p [] (suc more) = p ∷ []
first_step p _ _ = []

-- The answers that a task has found, if there is one.
abbrev pub answers_of : {S : Type 0} → Option (Task S) → List ℕ
answers_of None = []
answers_of (Some t) = t.body.found

-- The task that begins in a turn of so many steps from this state, if it does.
abbrev pub begun_by : {S : Type 0} → State S → List ℕ → ℕ → List (List ℕ)
begun_by s p steps = first_step p (answers_of (find s.tasks p)) steps

-- Turns from one state to the other, the first of this task: they end where there is no candidate. These are the tasks that begin in them, in the order of their first steps.
pub data Turns {S : Type 0} (P : Program S) : State S → List ℕ → List (List ℕ) → State S → Type 0 where
  ends : {s n : State S} {p : List ℕ} {steps : ℕ} {begun : List (List ℕ)} → Turn P s p steps n → ((q : List ℕ) → Candidate P n q → ⊥) → begun ≡ begun_by s p steps → Turns P s p begun n
  goes_on : {s m n : State S} {p q : List ℕ} {steps : ℕ} {begun later : List (List ℕ)} → Turn P s p steps m → IsNext P s m q → Turns P m q later n → begun ≡ begun_by s p steps ++ later → Turns P s p begun n

-- The turns of a program: the first is main's.
abbrev pub RunsByTurns : {S : Type 0} → Program S → Start S → List ℕ → List (List ℕ) → State S → Type 0
RunsByTurns P main cells begun n = Turns P (opening main cells) [] begun n

-- The order of a program: the points of its tasks in the order of their first steps.
pub record IsOrder {S : Type 0} (P : Program S) (main : Start S) (cells : List ℕ) (order : List (List ℕ)) : Type 0 where
  pub begun : List (List ℕ)
  pub state : State S
  pub runs : RunsByTurns P main cells begun state
  pub order_is : order ≡ map written begun

-- Each stands in the list once.
abbrev pub AreOnce : List (List ℕ) → Type 0
AreOnce [] = Unit {0}
AreOnce (q ∷ rest) = (IsIn q rest → ⊥) × AreOnce rest
