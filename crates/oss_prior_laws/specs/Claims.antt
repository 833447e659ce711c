-- What holds of runs by turns: a program has one, its states are those of the machine, and where it stops its answer is that of the sequential run.
use Rattle.std.specs.Prelude.{◌≡◌, ◌≢◌, ℕ, List}
use Rattle.oss_model.specs.declared.answer.Answer.{Answer}
use Rattle.oss_model.specs.Bodies.{Program, Start}
use Rattle.oss_model.specs.Machine.{At, State, Task}
use Rattle.oss_model.specs.Order.{IsIn}
use Rattle.oss_model.specs.Moves.{Reached}
use Rattle.oss_model.specs.Agreement.{Setting}
use Rattle.oss_model.specs.Answers.{IsAnswer, IsFinished, IsResult, IsStopped}
use Rattle.oss_model.specs.Termination.{IsLively}
use Rattle.oss_wave_laws.specs.Claims.{IsSame}
use Rattle.oss_prior_laws.specs.Turns.{AreOnce, Candidate, IsOrder, RunsByTurns, Turn}

-- The text of a program settles its turns: which tasks begin, in which order, and the state to which they come.
abbrev pub OneRunByTurns : Type 0 → Type 0
OneRunByTurns S = (P : Program S) (main : Start S) (cells : List ℕ) (xs ys : List (List ℕ)) (n m : State S)
    → RunsByTurns P main cells xs n → RunsByTurns P main cells ys m → (xs ≡ ys) × IsSame n m

-- So it has one order.
abbrev pub OneOrder : Type 0 → Type 0
OneOrder S = (P : Program S) (main : Start S) (cells : List ℕ) (a b : List (List ℕ)) → IsOrder P main cells a → IsOrder P main cells b → a ≡ b

-- A lively program has an order.
abbrev pub HasOrder : Type 0 → Type 0
HasOrder S = (P : Program S) (main : Start S) (cells : List ℕ) → Setting main cells → IsLively P → (order : List (List ℕ)) × IsOrder P main cells order

-- A candidate of a state of a run stays one through the turn of another task.
abbrev pub CandidatesStay : Type 0 → Type 0
CandidatesStay S = (P : Program S) (main : Start S) (cells : List ℕ) (s n : State S) (p : List ℕ) (steps : ℕ) (q : List ℕ)
    → Setting main cells → Reached P main cells s → Turn P s p steps n → q ≢ p → Candidate P s q → Candidate P n q

-- Turns come to a state of a run of the machine. No move is left in it.
abbrev pub TurnsStop : Type 0 → Type 0
TurnsStop S = (P : Program S) (main : Start S) (cells : List ℕ) (begun : List (List ℕ)) (n : State S) → Setting main cells → RunsByTurns P main cells begun n → Reached P main cells n × IsStopped P n

-- The answer there is the result of the sequential run.
abbrev pub AnswerIsTheResult : Type 0 → Type 0
AnswerIsTheResult S = (P : Program S) (main : Start S) (cells : List ℕ) (begun : List (List ℕ)) (n : State S) (a b : Answer)
    → Setting main cells → RunsByTurns P main cells begun n → IsAnswer P n a → IsResult P main cells b → a ≡ b

-- The tasks that begin are tasks of the state at the end, each once; and each task of it, where all are complete.
abbrev pub EachBeginsOnce : Type 0 → Type 0
EachBeginsOnce S = (P : Program S) (main : Start S) (cells : List ℕ) (begun : List (List ℕ)) (n : State S)
    → Setting main cells → RunsByTurns P main cells begun n
    → AreOnce begun × ((q : List ℕ) → IsIn q begun → (t : Task S) × At n q t) × (IsFinished P n → (q : List ℕ) (t : Task S) → At n q t → IsIn q begun)
