-- What holds of two programs whose bodies do the same acts. No contract can range over all relations, so a claim ranges over those that are told
-- by a test. The lemmas by which the claims are proved range over all.
use Rattle.std.specs.Prelude.{◌≡◌, ℕ, Bool, List, IsTrue}
use Rattle.oss_syntax.specs.declared.access.Op.{Op}
use Rattle.oss_model.specs.declared.answer.Answer.{Answer}
use Rattle.oss_model.specs.Answers.{IsResult, IsStopped, IsAnswer}
use Rattle.oss_model.specs.Bodies.{Program, Start}
use Rattle.oss_model.specs.Machine.{Task, State, At, IsComplete}
use Rattle.oss_model.specs.Moves.{CanStep, Stepped, CanLet, LetGo, CanJoin, Joined, Moved, opening, Reached}
use Rattle.oss_same_acts_laws.specs.Alike.{IsBisimulation, turned, AreTasksAlike, IsAlike}

-- The relation of a test.
abbrev pub tells : {S T : Type 0} → (Start S → Start T → Bool) → Start S → Start T → Type 0
tells test b c = IsTrue (test b c)

-- A program does the same acts as itself, where the beginnings of bodies are one.
abbrev pub ProgramsDoAsThemselves : Type 0 → Type 0
ProgramsDoAsThemselves S = (P : Program S) → IsBisimulation P P (λ b c. b ≡ c)

-- The opening states are alike where main begins alike.
abbrev pub OpeningsAreAlike : Type 0 → Type 0 → Type 0
OpeningsAreAlike S T = (P : Program S) (Q : Program T) (test : Start S → Start T → Bool) (main : Start S) (other : Start T) (cells : List ℕ)
    → IsBisimulation P Q (tells test) → tells test main other → IsAlike (tells test) (opening main cells) (opening other cells)

-- A task that is alike stands at the same path in the other state.
abbrev pub TasksHavePartners : Type 0 → Type 0 → Type 0
TasksHavePartners S T = (test : Start S → Start T → Bool) (s : State S) (n : State T) (p : List ℕ) (t : Task S)
    → IsAlike (tells test) s n → At s p t → (u : Task T) × At n p u × AreTasksAlike (tells test) t u

-- The act of a task may happen in the other state too, and leads to a state that is alike.
pub record StepsToo {S T : Type 0} (Q : Program T) (R : Start S → Start T → Type 0) (p : List ℕ) (t : Task S) (x : State S) (n : State T) : Type 0 where
  pub task : Task T
  pub state : State T
  pub tasks : AreTasksAlike R t task
  pub can : CanStep Q n p task
  pub stepped : Stepped Q n p task state
  pub alike : IsAlike R x state

-- So may each act of a task.
abbrev pub StepsAreAlike : Type 0 → Type 0 → Type 0
StepsAreAlike S T = (P : Program S) (Q : Program T) (test : Start S → Start T → Bool) (s x : State S) (n : State T) (p : List ℕ) (t : Task S)
    → IsBisimulation P Q (tells test) → IsAlike (tells test) s n → CanStep P s p t → Stepped P s p t x → StepsToo Q (tells test) p t x n

-- The task may give up the cell in the other state too, which leads to a state that is alike.
pub record LetsToo {S T : Type 0} (Q : Program T) (R : Start S → Start T → Type 0) (p : List ℕ) (c : ℕ) (t : Task S) (x : State S) (n : State T) : Type 0 where
  pub task : Task T
  pub state : State T
  pub tasks : AreTasksAlike R t task
  pub can : CanLet Q n p c task
  pub let_go : LetGo n p c task state
  pub alike : IsAlike R x state

-- So it is with each cell that is given up.
abbrev pub LetsAreAlike : Type 0 → Type 0 → Type 0
LetsAreAlike S T = (P : Program S) (Q : Program T) (test : Start S → Start T → Bool) (s x : State S) (n : State T) (p : List ℕ) (c : ℕ) (t : Task S)
    → IsBisimulation P Q (tells test) → IsAlike (tells test) s n → CanLet P s p c t → LetGo s p c t x → LetsToo Q (tells test) p c t x n

-- The slot may be joined in the other state too, which leads to a state that is alike.
pub record JoinsToo {S T : Type 0} (Q : Program T) (R : Start S → Start T → Type 0) (p : List ℕ) (c : ℕ) (op : Op) (t : Task S) (x : State S) (n : State T) : Type 0 where
  pub task : Task T
  pub state : State T
  pub tasks : AreTasksAlike R t task
  pub can : CanJoin Q n p c op task
  pub joined : Joined Q n p c op task state
  pub alike : IsAlike R x state

-- So it is with each slot that is joined.
abbrev pub JoinsAreAlike : Type 0 → Type 0 → Type 0
JoinsAreAlike S T = (P : Program S) (Q : Program T) (test : Start S → Start T → Bool) (s x : State S) (n : State T) (p : List ℕ) (c : ℕ) (op : Op) (t : Task S)
    → IsBisimulation P Q (tells test) → IsAlike (tells test) s n → CanJoin P s p c op t → Joined P s p c op t x → JoinsToo Q (tells test) p c op t x n

-- A move leads to a state that is alike in the other program too.
pub record MovesToo {S T : Type 0} (Q : Program T) (R : Start S → Start T → Type 0) (x : State S) (n : State T) : Type 0 where
  pub state : State T
  pub moved : Moved Q n state
  pub alike : IsAlike R x state

-- So does each move.
abbrev pub MovesAreAlike : Type 0 → Type 0 → Type 0
MovesAreAlike S T = (P : Program S) (Q : Program T) (test : Start S → Start T → Bool) (s x : State S) (n : State T)
    → IsBisimulation P Q (tells test) → IsAlike (tells test) s n → Moved P s x → MovesToo Q (tells test) x n

-- A state of a run of the other program is alike.
pub record RunsToo {S T : Type 0} (Q : Program T) (R : Start S → Start T → Type 0) (other : Start T) (cells : List ℕ) (s : State S) : Type 0 where
  pub state : State T
  pub reached : Reached Q other cells state
  pub alike : IsAlike R s state

-- So each state of a run has one of a run of the other program that is alike.
abbrev pub RunsAreAlike : Type 0 → Type 0 → Type 0
RunsAreAlike S T = (P : Program S) (Q : Program T) (test : Start S → Start T → Bool) (main : Start S) (other : Start T) (cells : List ℕ) (s : State S)
    → IsBisimulation P Q (tells test) → tells test main other → Reached P main cells s → RunsToo Q (tells test) other cells s

-- What is complete in the one state is complete in the other.
abbrev pub CompleteAlike : Type 0 → Type 0 → Type 0
CompleteAlike S T = (P : Program S) (Q : Program T) (test : Start S → Start T → Bool) (s : State S) (n : State T) (p : List ℕ)
    → IsBisimulation P Q (tells test) → IsAlike (tells test) s n → IsComplete P s p → IsComplete Q n p

-- Where no move is left in the one state, none is left in the other.
abbrev pub StoppedAlike : Type 0 → Type 0 → Type 0
StoppedAlike S T = (P : Program S) (Q : Program T) (test : Start S → Start T → Bool) (s : State S) (n : State T)
    → IsBisimulation P Q (tells test) → IsAlike (tells test) s n → IsStopped P s → IsStopped Q n

-- The states have the same answer.
abbrev pub AnswersAreAlike : Type 0 → Type 0 → Type 0
AnswersAreAlike S T = (P : Program S) (Q : Program T) (test : Start S → Start T → Bool) (s : State S) (n : State T) (a : Answer)
    → IsBisimulation P Q (tells test) → IsAlike (tells test) s n → IsAnswer P s a → IsAnswer Q n a

-- And the sequential runs have the same result.
abbrev pub ResultsAreAlike : Type 0 → Type 0 → Type 0
ResultsAreAlike S T = (P : Program S) (Q : Program T) (test : Start S → Start T → Bool) (main : Start S) (other : Start T) (cells : List ℕ) (a : Answer)
    → IsBisimulation P Q (tells test) → tells test main other → IsResult P main cells a → IsResult Q other cells a

-- From the other side all of this is so too: the programs do the same acts,
abbrev pub BisimulationsTurn : Type 0 → Type 0 → Type 0
BisimulationsTurn S T = (P : Program S) (Q : Program T) (test : Start S → Start T → Bool)
    → IsBisimulation P Q (tells test) → IsBisimulation Q P (turned (tells test))

-- and the states are alike.
abbrev pub StatesTurn : Type 0 → Type 0 → Type 0
StatesTurn S T = (test : Start S → Start T → Bool) (s : State S) (n : State T) → IsAlike (tells test) s n → IsAlike (turned (tells test)) n s
