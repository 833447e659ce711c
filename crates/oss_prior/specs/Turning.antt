-- Turns as a core makes them, and what is noted of them.
-- Read against: main creates 0.0 with out(x), and waits. In main's turn it makes three steps, of which one is its first: what is noted is its point, 0. Behind it 0.0 is the one candidate, so
-- the next turn is that of task 1; its point, 0.0, is noted too. Behind that turn and its passes main may step again; behind main's second turn there is no candidate.
use Rattle.std.specs.Prelude.{◌≡◌, ℕ, ◌-◌, ◌^◌, min, Bool, false, List, [], ◌++◌, map, Option, Some, None, ◌↔◌}
use Rattle.oss_syntax.specs.declared.access.Op.{Op}
use Rattle.oss_model.specs.Bodies.{Program, Start}
use Rattle.oss_model.specs.Machine.{State, Task}
use Rattle.oss_model.specs.Moves.{CanJoin, CanLet, CanStep}
use Rattle.oss_model.specs.Order.{written}
use Rattle.oss_model.specs.declared.task_no.TaskNo.{TaskNo}
use Rattle.oss_wave_laws.specs.Passes.{GivenUp, IsPass, Passes}
use Rattle.oss_wave_laws.specs.Waves.{Takes}
use Rattle.oss_code.specs.declared.code.CodeParts.{CodeParts}
use Rattle.oss_machine.specs.Frames.{CodeScript}
use Rattle.oss_machine.specs.Machines.{asks}
use Rattle.oss_tree.specs.declared.task.Task.{Task as TreeTask}
use Rattle.oss_tree.specs.Tasks.{HasPoint}
use Rattle.oss_core.specs.Kept.{IsCore, Kept}
use Rattle.oss_prior_laws.specs.Turns.{Candidate, IsNext, Turn, Turns, begun_by}

-- The task with this number has made so many steps, of which the count stays at its greatest value.
pub record StepsGo (code : CodeParts) (main : Start CodeScript) (first : List ℕ) (s : State CodeScript) (p : List ℕ) (now : Kept) (acts : ℕ) : Type 0 where
  pub state : State CodeScript
  pub count : ℕ
  pub takes : Takes (asks code) p s count state
  pub core : IsCore code main first now state
  pub acts_are : acts ≡ min count (2 ^ 64 - 1)

-- The same, from each state for which the core stood.
abbrev pub HaveStepsGone : CodeParts → TaskNo → Kept → Kept → ℕ → Type 0
HaveStepsGone code task old now acts =
    (main : Start CodeScript) (first : List ℕ) (s : State CodeScript) (p : List ℕ) → IsCore code main first old s → HasPoint old.tree.tasks task.0 (written p) → StepsGo code main first s p now acts

-- And it can make none more.
pub record StepsMade (code : CodeParts) (main : Start CodeScript) (first : List ℕ) (s : State CodeScript) (p : List ℕ) (new : Kept) (acts : ℕ) : Type 0 where
  pub gone : StepsGo code main first s p new acts
  pub none : (t : Task CodeScript) → CanStep (asks code) gone.state p t → ⊥

abbrev pub HasMadeSteps : CodeParts → TaskNo → Kept → Kept → ℕ → Type 0
HasMadeSteps code task old new acts =
    (main : Start CodeScript) (first : List ℕ) (s : State CodeScript) (p : List ℕ) → IsCore code main first old s → HasPoint old.tree.tasks task.0 (written p) → StepsMade code main first s p new acts

-- No cell may be given up and no slot joined.
pub record IsAtRest {S : Type 0} (P : Program S) (s : State S) : Type 0 where
  pub no_let : (p : List ℕ) (c : ℕ) (t : Task S) → CanLet P s p c t → ⊥
  pub no_join : (p : List ℕ) (c : ℕ) (op : Op) (t : Task S) → CanJoin P s p c op t → ⊥

-- A pass was made, and whether it gave anything up.
pub record PassMade (code : CodeParts) (main : Start CodeScript) (first : List ℕ) (s : State CodeScript) (new : Kept) (some : Bool) : Type 0 where
  pub state : State CodeScript
  pub list : List GivenUp
  pub pass : IsPass (asks code) s list state
  pub core : IsCore code main first new state
  pub some_is : (some ≡ false) ↔ (list ≡ [])

abbrev pub HasMadePass : CodeParts → Kept → Kept → Bool → Type 0
HasMadePass code old new some = (main : Start CodeScript) (first : List ℕ) (s : State CodeScript) → IsCore code main first old s → PassMade code main first s new some

-- So far passes were made that gave something up: whatever passes come behind them, these come first.
pub record PassesGo (code : CodeParts) (main : Start CodeScript) (first : List ℕ) (s : State CodeScript) (now : Kept) : Type 0 where
  pub state : State CodeScript
  pub lists : List (List GivenUp)
  pub leads : (rest : List (List GivenUp)) (n : State CodeScript) → Passes (asks code) state rest n → Passes (asks code) s (lists ++ rest) n
  pub core : IsCore code main first now state

abbrev pub HavePassesGone : CodeParts → Kept → Kept → Type 0
HavePassesGone code old now = (main : Start CodeScript) (first : List ℕ) (s : State CodeScript) → IsCore code main first old s → PassesGo code main first s now

-- Passes were made until one gave nothing up.
pub record PassesMade (code : CodeParts) (main : Start CodeScript) (first : List ℕ) (s : State CodeScript) (new : Kept) : Type 0 where
  pub state : State CodeScript
  pub lists : List (List GivenUp)
  pub passes : Passes (asks code) s lists state
  pub core : IsCore code main first new state
  pub rest : IsAtRest (asks code) state

abbrev pub HasMadePasses : CodeParts → Kept → Kept → Type 0
HasMadePasses code old new = (main : Start CodeScript) (first : List ℕ) (s : State CodeScript) → IsCore code main first old s → PassesMade code main first s new

-- A turn of a task was made, and its point is noted behind the others where the turn had its first step.
pub record TurnMade (code : CodeParts) (main : Start CodeScript) (first : List ℕ) (s : State CodeScript) (p : List ℕ) (new : Kept) (before after : List (List ℕ)) : Type 0 where
  pub state : State CodeScript
  pub steps : ℕ
  pub turn : Turn (asks code) s p steps state
  pub core : IsCore code main first new state
  pub noted : after ≡ before ++ map written (begun_by s p steps)

abbrev pub HasMadeTurn : CodeParts → TaskNo → Kept → Kept → List (List ℕ) → List (List ℕ) → Type 0
HasMadeTurn code task old new before after =
    (main : Start CodeScript) (first : List ℕ) (s : State CodeScript) (p : List ℕ) → IsCore code main first old s → HasPoint old.tree.tasks task.0 (written p) → TurnMade code main first s p new before after

-- Whose the next turn is, behind one from the first state to the second: that of the task with this number; or there is no candidate.
abbrev pub IsNextTask : Option TaskNo → Program CodeScript → List TreeTask → State CodeScript → State CodeScript → Type 0
IsNextTask (Some task) P tasks s n = (q : List ℕ) × HasPoint tasks task.0 (written q) × IsNext P s n q
IsNextTask None P tasks s n = (q : List ℕ) → Candidate P n q → ⊥

-- A turn was made and noted, and this is the next.
pub record TurnTaken (code : CodeParts) (main : Start CodeScript) (first : List ℕ) (s : State CodeScript) (p : List ℕ) (new : Kept) (before after : List (List ℕ)) (next : Option TaskNo) : Type 0 where
  pub made : TurnMade code main first s p new before after
  pub next_is : IsNextTask next (asks code) new.tree.tasks s made.state

abbrev pub HasTakenTurn : CodeParts → TaskNo → Kept → Kept → List (List ℕ) → List (List ℕ) → Option TaskNo → Type 0
HasTakenTurn code task old new before after next =
    (main : Start CodeScript) (first : List ℕ) (s : State CodeScript) (p : List ℕ) → IsCore code main first old s → HasPoint old.tree.tasks task.0 (written p) → TurnTaken code main first s p new before after next

-- So far turns were made, and if there is a next it is that of this task: whatever turns come from there on, these come first. Where there is none, these were all.
abbrev pub LeadOn : Option TaskNo → CodeParts → State CodeScript → List TreeTask → State CodeScript → List (List ℕ) → Type 0
LeadOn (Some task) code s tasks now begun =
    (q : List ℕ) × HasPoint tasks task.0 (written q) × Candidate (asks code) now q × ((later : List (List ℕ)) (n : State CodeScript) → Turns (asks code) now q later n → Turns (asks code) s [] (begun ++ later) n)
LeadOn None code s tasks now begun = Turns (asks code) s [] begun now

pub record TurnsGo (code : CodeParts) (main : Start CodeScript) (first : List ℕ) (s : State CodeScript) (now : Kept) (order : List (List ℕ)) (next : Option TaskNo) : Type 0 where
  pub state : State CodeScript
  pub begun : List (List ℕ)
  pub core : IsCore code main first now state
  pub noted : order ≡ map written begun
  pub leads : LeadOn next code s now.tree.tasks state begun

abbrev pub HaveTurnsGone : CodeParts → Kept → Kept → List (List ℕ) → Option TaskNo → Type 0
HaveTurnsGone code old now order next = (main : Start CodeScript) (first : List ℕ) (s : State CodeScript) → IsCore code main first old s → TurnsGo code main first s now order next

-- Turns were made until there was no candidate.
pub record TurnsMade (code : CodeParts) (main : Start CodeScript) (first : List ℕ) (s : State CodeScript) (new : Kept) (order : List (List ℕ)) : Type 0 where
  pub state : State CodeScript
  pub begun : List (List ℕ)
  pub turns : Turns (asks code) s [] begun state
  pub core : IsCore code main first new state
  pub noted : order ≡ map written begun

abbrev pub HasMadeTurns : CodeParts → Kept → Kept → List (List ℕ) → Type 0
HasMadeTurns code old new order = (main : Start CodeScript) (first : List ℕ) (s : State CodeScript) → IsCore code main first old s → TurnsMade code main first s new order
