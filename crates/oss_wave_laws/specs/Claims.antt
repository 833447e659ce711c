-- What holds of runs by waves: each state on the way is one of a run of the machine, and where the run stops its answer is that of the
-- sequential run.
use Rattle.std.specs.Prelude.{◌≡◌, ◌<◌, ℕ, List}
use Rattle.oss_model.specs.declared.answer.Answer.{Answer}
use Rattle.oss_model.specs.Bodies.{Program, Start}
use Rattle.oss_model.specs.Machine.{State, find}
use Rattle.oss_model.specs.Moves.{Reached}
use Rattle.oss_model.specs.Sequence.{Running, Sequential}
use Rattle.oss_model.specs.Agreement.{Setting, Agrees}
use Rattle.oss_model.specs.Termination.{IsLively}
use Rattle.oss_model.specs.Answers.{IsResult, IsStopped, IsAnswer}
use Rattle.oss_wave_laws.specs.Alone.{Runs}
use Rattle.oss_wave_laws.specs.Waves.{Turn, IsWave}
use Rattle.oss_wave_laws.specs.Passes.{GivenUp, IsPass}
use Rattle.oss_wave_laws.specs.Left.{left}
use Rattle.oss_wave_laws.specs.Rounds.{Round, IsRound, RunsByWaves, Trace, IsTrace}

-- A state to which moves lead from a state of a run is one of a run.
abbrev pub RunsGoOn : Type 0 → Type 0
RunsGoOn S = (P : Program S) (main : Start S) (cells : List ℕ) (s n : State S) → Reached P main cells s → Runs P s n → Reached P main cells n

-- A wave is made of moves.
abbrev pub WaveMoves : Type 0 → Type 0
WaveMoves S = (P : Program S) (s n : State S) (turns : List Turn) → IsWave P s turns n → Runs P s n

-- So is a pass.
abbrev pub PassMoves : Type 0 → Type 0
PassMoves S = (P : Program S) (s n : State S) (done : List GivenUp) → IsPass P s done n → Runs P s n

-- And a round.
abbrev pub RoundMoves : Type 0 → Type 0
RoundMoves S = (P : Program S) (s n : State S) (round : Round) → IsRound P s round n → Runs P s n

-- A run by waves comes to a state of a run of the machine in which no move is left.
abbrev pub RoundsStop : Type 0 → Type 0
RoundsStop S = (P : Program S) (main : Start S) (cells : List ℕ) (rounds : List Round) (n : State S) → RunsByWaves P main cells rounds n → Reached P main cells n × IsStopped P n

-- The result of the sequential run is the answer there.
abbrev pub ResultIsTheAnswer : Type 0 → Type 0
ResultIsTheAnswer S = (P : Program S) (main : Start S) (cells : List ℕ) (rounds : List Round) (n : State S) (b : Answer)
    → Setting main cells → RunsByWaves P main cells rounds n → IsResult P main cells b → IsAnswer P n b

-- And there is no other.
abbrev pub AnswerIsTheResult : Type 0 → Type 0
AnswerIsTheResult S = (P : Program S) (main : Start S) (cells : List ℕ) (rounds : List Round) (n : State S) (a b : Answer)
    → Setting main cells → RunsByWaves P main cells rounds n → IsAnswer P n a → IsResult P main cells b → a ≡ b

-- The states are one, but for how they list their tasks.
pub record IsSame {S : Type 0} (s n : State S) : Type 0 where
  pub cells : n.cells ≡ s.cells
  pub tasks : (p : List ℕ) → find n.tasks p ≡ find s.tasks p

-- The text of a program settles its run by waves: the rounds, and the state to which they come.
abbrev pub OneRunByWaves : Type 0 → Type 0
OneRunByWaves S = (P : Program S) (main : Start S) (cells : List ℕ) (xs ys : List Round) (n m : State S)
    → RunsByWaves P main cells xs n → RunsByWaves P main cells ys m → (xs ≡ ys) × IsSame n m

-- And so its trace.
abbrev pub OneTrace : Type 0 → Type 0
OneTrace S = (P : Program S) (main : Start S) (cells : List ℕ) (a b : Trace) → IsTrace P main cells a → IsTrace P main cells b → a ≡ b

-- A lively program has a run by waves.
abbrev pub HasRunByWaves : Type 0 → Type 0
HasRunByWaves S = (P : Program S) (main : Start S) (cells : List ℕ) → Setting main cells → IsLively P → (rounds : List Round) × (n : State S) × RunsByWaves P main cells rounds n

-- And so a trace.
abbrev pub HasTrace : Type 0 → Type 0
HasTrace S = (P : Program S) (main : Start S) (cells : List ℕ) → Setting main cells → IsLively P → (trace : Trace) × IsTrace P main cells trace

-- A round that begins where some move may be made leaves less to do.
abbrev pub RoundFalls : Type 0 → Type 0
RoundFalls S = (P : Program S) (main : Start S) (cells : List ℕ) (z : Running S) (s n : State S) (round : Round) (lively : IsLively P)
    → Setting main cells → Sequential P main cells z → Agrees P main cells z s → (IsStopped P s → ⊥) → IsRound P s round n → left lively n < left lively s
