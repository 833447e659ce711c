-- A schedule is replayed on the machine of tasks: its moves are made one after the other, from the state at the beginning, as far as each is enabled.
-- What comes of it is the answer where all were made and no move is left, and else at which move it stopped, or how many tasks are not complete.
-- Read against `long x, y;` and a `main` that creates a task with out(x) that stores 5, and one with in(x) out(y) that stores x + 1, waits and
-- prints y. The schedule `step 0 5`, `step 0.0 3`, `let 0.0 0 1`, `step 0.1 4`, `let 0.1 0 2`, `step 0 5` makes five acts of main, a tick and a
-- creation, twice, and a tick; the tick, the store and the end of the first task; its let of x; the acts of the second task and its lets of x and
-- y; and the rest of main. No move is left, and the answer is Done with the output `6` and the cells 5, 6. Of `step 0 5` alone three tasks are not
-- complete. In `step 0 6` move 1 is not enabled, since the sixth act, the wait, may not be made, though the five before it may; in `step 0 5`,
-- `step 0.1 1` move 2 is not, since x is not given up; in `step 0.0 1` move 1 is not, since there is no such task yet; and in `step 0 5`,
-- `step 0.0 3`, `let 0.0 0 2` move 3 is not, since the first task has not the cell 1.
use Rattle.std.specs.Prelude.{◌≡◌, ℕ, zero, suc, ◌+◌, List, [], ◌∷◌}
use Rattle.oss_syntax.specs.declared.access.Op.{Op}
use Rattle.oss_model.specs.Order.{written}
use Rattle.oss_model.specs.Bodies.{Program}
use Rattle.oss_model.specs.Machine.{Task, State, At}
use Rattle.oss_model.specs.Moves.{CanStep, Stepped, CanLet, LetGo, CanJoin, Joined, opening}
use Rattle.oss_model.specs.Answers.{IsStopped, IsAnswer}
use Rattle.oss_code.specs.declared.code.CodeParts.{CodeParts}
use Rattle.oss_machine.specs.Machines.{asks}
use Rattle.oss_body.specs.Mains.{code_main}
use Rattle.oss_sched.specs.declared.moves.TextMove.{TextMove}
use Rattle.oss_sched.specs.declared.moves.TextMove.TheVariants.{Step, Let, Join}
use Rattle.oss_replay.specs.declared.replayed.Replayed.{Replayed}
use Rattle.oss_replay.specs.declared.replayed.Replayed.TheVariants.{Answered, NotEnabled, Unfinished}
use Rattle.oss_core.specs.Stops.{HasUnfinished}

-- The next act of the task with this path leads from one state to the other.
pub record StepsTo {S : Type 0} (P : Program S) (p : List ℕ) (s n : State S) : Type 0 where
  pub task : Task S
  pub can : CanStep P s p task
  pub stepped : Stepped P s p task n

-- So does the let of the cell by the task with this path.
pub record LetsTo {S : Type 0} (P : Program S) (p : List ℕ) (c : ℕ) (s n : State S) : Type 0 where
  pub task : Task S
  pub can : CanLet P s p c task
  pub let_go : LetGo s p c task n

-- And the join of the slot of the task with this path into the cell.
pub record JoinsTo {S : Type 0} (P : Program S) (p : List ℕ) (c : ℕ) (s n : State S) : Type 0 where
  pub op : Op
  pub task : Task S
  pub can : CanJoin P s p c op task
  pub joined : Joined P s p c op task n

-- The point of the task that a move of a schedule names.
abbrev pub point_in : TextMove → List ℕ
point_in (Step point count) = point
point_in (Let point first count) = point
point_in (Join point first count) = point

-- How many parts the move has: acts, or cells.
abbrev pub parts_in : TextMove → ℕ
parts_in (Step point count) = count
parts_in (Let point first count) = count
parts_in (Join point first count) = count

-- The part of the move with this number, counted from 0, leads from one state to the other, where the task has this path: it is the task's next act,
-- or the let or join of the cell that stands so many cells behind the first one.
abbrev pub IsPartOf : {S : Type 0} → Program S → List ℕ → TextMove → ℕ → State S → State S → Type 0
IsPartOf P p (Step point count) k s n = StepsTo P p s n
IsPartOf P p (Let point first count) k s n = LetsTo P p (first + k) s n
IsPartOf P p (Join point first count) k s n = JoinsTo P p (first + k) s n

-- The first so many parts of the move, one after the other, lead from one state to the other.
pub data Makes {S : Type 0} (P : Program S) (p : List ℕ) (move : TextMove) (s : State S) : ℕ → State S → Type 0 where
  makes_none : Makes P p move s zero s
  makes_more : {k : ℕ} {a b : State S} → Makes P p move s k a → IsPartOf P p move k a b → Makes P p move s (suc k) b

-- The move leads from one state to the other: there is a task whose path is written as its point, and all its parts do.
pub record Leads {S : Type 0} (P : Program S) (move : TextMove) (s n : State S) : Type 0 where
  pub path : List ℕ
  pub point : written path ≡ point_in move
  pub task : Task S
  pub at_ : At s path task
  pub makes : Makes P path move s (parts_in move) n

-- The move is enabled: it leads to some state.
abbrev pub IsEnabled : {S : Type 0} → Program S → TextMove → State S → Type 0
IsEnabled P move s = (n : State _) × Leads P move s n

-- The moves, one after the other, lead from one state to the other.
pub data Plays {S : Type 0} (P : Program S) : State S → List TextMove → State S → Type 0 where
  plays_none : {s : State S} → Plays P s [] s
  plays_more : {s m n : State S} {move : TextMove} {rest : List TextMove} → Leads P move s m → Plays P m rest n → Plays P s (move ∷ rest) n

-- Of moves that are counted from this number on, the first that is not enabled at its turn has that number.
pub data IsStuckAt {S : Type 0} (P : Program S) : State S → ℕ → List TextMove → ℕ → Type 0 where
  stuck_here : {s : State S} {number : ℕ} {move : TextMove} {rest : List TextMove} → (IsEnabled P move s → ⊥) → IsStuckAt P s number (move ∷ rest) number
  stuck_later : {s m : State S} {number at : ℕ} {move : TextMove} {rest : List TextMove} → Leads P move s m → IsStuckAt P m (number + 1) rest at → IsStuckAt P s number (move ∷ rest) at

-- What comes of moves that are replayed from this state and counted from this number on: all were made, and no move is left, with the answer of
-- the state to which they lead; a move is not enabled; or all were made, and a move is left, with the number of the tasks that are not complete.
abbrev pub IsReplayedFrom : {S : Type 0} → Program S → State S → ℕ → List TextMove → Replayed → Type 0
IsReplayedFrom P s number moves (Answered answer) = (n : State _) × Plays P s moves n × IsStopped P n × IsAnswer P n answer
IsReplayedFrom P s number moves (NotEnabled at) = IsStuckAt P s number moves at
IsReplayedFrom P s number moves (Unfinished count) = (n : State _) × Plays P s moves n × (IsStopped P n → ⊥) × HasUnfinished P n count

-- The same for the code, where main starts over its cells with this much fuel for each task, and the moves are counted from 1.
abbrev pub IsReplayed : CodeParts → ℕ → List TextMove → Replayed → Type 0
IsReplayed code fuel moves replayed = IsReplayedFrom (asks code) (opening (code_main code fuel) code.first) 1 moves replayed
