-- What the laws say. Each is the contract of the function of its name in the module laws of the crate.
use Rattle.std.specs.Prelude.{◌≡◌, ◌≢◌, ℕ, ◌<◌, ◌≤◌, ◌⊎◌, List, ◌∷◌, length, slice_index, Bool, true, false, Some, None}
use Rattle.oss_syntax.specs.declared.access.Op.{Op}
use Rattle.oss_model.specs.declared.answer.Answer.{Answer}
use Rattle.oss_syntax.specs.declared.fault.FaultKind.{FaultKind}
use Rattle.oss_model.specs.Order.{IsSuffix}
use Rattle.oss_model.specs.Rights.{Touch, Conflicts}
use Rattle.oss_model.specs.Context.{Context}
use Rattle.oss_model.specs.Bodies.{Order, Program, Act, Start, Touches, stage_act, IsFault}
use Rattle.oss_model.specs.Bodies.Act.{Folded, Fault, Over}
use Rattle.oss_model.specs.Forest.{IsDone, IsWriteSatisfied, IsReadSatisfied, IsJoinSatisfied}
use Rattle.oss_model.specs.Machine.{Task, State, At, accesses, IsReady, IsComplete, IsWaitMet}
use Rattle.oss_model.specs.Moves.{act_now, created_now, is_ended, CanStep, Stepped, CanLet, LetGo, CanJoin, Joined, Moved, opening, Reached, GoesOn, IsClosed, SomeMove, IsLeast}
use Rattle.oss_model.specs.Memory.{Event, key_at, IsEarlierEvent, Happened, DoneTouch}
use Rattle.oss_model.specs.Sequence.{Running, Sequential, IsAtEnd}
use Rattle.oss_model.specs.Agreement.{AreWords, Setting, main_start, Agrees, AgreesWithRun}
use Rattle.oss_model.specs.Answers.{IsNotPast, IsOutput, IsResult, IsStopped, IsAnswer}

-- Main may start over any memory of 64-bit numbers.
abbrev pub EveryMainIsASetting : Type 0 → Type 0
EveryMainIsASetting S = (order : Order S) (cells : List ℕ) (fuel : ℕ) → AreWords cells → Setting (main_start order (length cells) fuel) cells

-- The opening state agrees with each stage of the sequential run.
abbrev pub OpeningAgrees : Type 0 → Type 0
OpeningAgrees S = (P : Program S) (main : Start S) (cells : List ℕ) (z : Running S) → Setting main cells → Sequential P main cells z → Agrees P main cells z (opening main cells)

-- An act that may happen takes a state that agrees to one that agrees.
abbrev pub StepAgrees : Type 0 → Type 0
StepAgrees S = (P : Program S) (main : Start S) (cells : List ℕ) (z : Running S) (s n : State S) (p : List ℕ) (t : Task S)
    → Setting main cells → Sequential P main cells z → Agrees P main cells z s → CanStep P s p t → Stepped P s p t n → Agrees P main cells z n

-- A cell that may be given up does.
abbrev pub LetAgrees : Type 0 → Type 0
LetAgrees S = (P : Program S) (main : Start S) (cells : List ℕ) (z : Running S) (s n : State S) (p : List ℕ) (c : ℕ) (t : Task S)
    → Setting main cells → Sequential P main cells z → Agrees P main cells z s → CanLet P s p c t → LetGo s p c t n → Agrees P main cells z n

-- A slot that may be joined does.
abbrev pub JoinAgrees : Type 0 → Type 0
JoinAgrees S = (P : Program S) (main : Start S) (cells : List ℕ) (z : Running S) (s n : State S) (p : List ℕ) (c : ℕ) (op : Op) (t : Task S)
    → Setting main cells → Sequential P main cells z → Agrees P main cells z s → CanJoin P s p c op t → Joined P s p c op t n → Agrees P main cells z n

-- Every state of every run of the machine agrees with each stage of the sequential run.
abbrev pub EveryStateAgrees : Type 0 → Type 0
EveryStateAgrees S = (P : Program S) (main : Start S) (cells : List ℕ) (z : Running S) (s : State S) → Setting main cells → Sequential P main cells z → Reached P main cells s → Agrees P main cells z s

-- The open task with the least key stands before a fault.
pub record FaultIsNext {S : Type 0} (P : Program S) (s : State S) : Type 0 where
  pub path : List ℕ
  pub task : Task S
  pub at_ : At s path task
  pub open_ : IsClosed P path task → ⊥
  pub least : IsLeast P s path task
  pub fault : IsFault (act_now P task.body)

-- While a task is open, some move may be made, or the open task with the least key stands before a fault.
abbrev pub OpenTasksMove : Type 0 → Type 0
OpenTasksMove S = (P : Program S) (main : Start S) (cells : List ℕ) (z : Running S) (s : State S) (p : List ℕ) (t : Task S)
    → Setting main cells → Agrees P main cells z s → At s p t → (IsClosed P p t → ⊥) → SomeMove P s ⊎ FaultIsNext P s

-- The output that the sequential run keeps is that of its state: it prints in point order.
abbrev pub RunKeepsOutput : Type 0 → Type 0
RunKeepsOutput S = (P : Program S) (main : Start S) (cells : List ℕ) (z : Running S) → Setting main cells → Sequential P main cells z → IsOutput P z.state None z.printed

-- The done acts of a state that are not past the fault of the sequential run are done there, with the same
-- answers.
abbrev pub ActsUpToFault : Type 0 → Type 0
ActsUpToFault S = (P : Program S) (main : Start S) (cells : List ℕ) (z : Running S) (s : State S) (end : IsAtEnd P z) (kind : FaultKind) (line : ℕ) (key : List ℕ) (e : Event S)
    → Setting main cells → Sequential P main cells z → Agrees P main cells z s → act_now P end.task.body ≡ Fault kind line key → Happened s e → IsNotPast (Some key) (key_at P e) → Happened z.state e

-- Where the sequential run has ended, all done acts of a state are done there.
abbrev pub ActsUpToEnd : Type 0 → Type 0
ActsUpToEnd S = (P : Program S) (main : Start S) (cells : List ℕ) (z : Running S) (s : State S) (end : IsAtEnd P z) (e : Event S)
    → Setting main cells → Sequential P main cells z → Agrees P main cells z s → act_now P end.task.body ≡ Over → Happened s e → Happened z.state e

-- A touch of the sequential run that conflicts with a later one which is done in a state is done in the state
-- too.
abbrev pub EarlierConflictsAreDone : Type 0 → Type 0
EarlierConflictsAreDone S = (P : Program S) (main : Start S) (cells : List ℕ) (z : Running S) (s : State S) (e g : Event S) (c : ℕ) (a b : Touch) (slot other : Bool)
    → Setting main cells → Sequential P main cells z → Agrees P main cells z s → Happened z.state e → Touches (stage_act P e.start e.past) c a slot → DoneTouch P s c g b other
    → Conflicts a slot b other → IsEarlierEvent P e g → DoneTouch P s c e a slot

-- The same acts are done in the two states.
pub record SameActs {S : Type 0} (x s : State S) : Type 0 where
  pub forth : (e : Event S) → Happened x e → Happened s e
  pub back : (e : Event S) → Happened s e → Happened x e

-- How a state in which no move is left relates to the end of the sequential run.
pub data IsStoppedAs {S : Type 0} (P : Program S) (cells : List ℕ) (z : Running S) (end : IsAtEnd P z) (s : State S) : Type 0 where
  -- every task is closed, main has ended, the same acts are done and the cells are the same
  ended : ((q : List ℕ) (u : Task S) → At s q u → IsClosed P q u) → is_ended P end.task.body ≡ true → SameActs z.state s → ((c : ℕ) → c < length cells → slice_index s.cells c ≡ slice_index z.state.cells c) → IsStoppedAs P cells z end s
  -- the least open task stands before the fault of the run, and all that the run did is done
  failed : (p : List ℕ) (t : Task S) → At s p t → IsLeast P s p t → IsFault (act_now P t.body) → z.active ≡ p → end.task.body ≡ t.body → ((e : Event S) → Happened z.state e → Happened s e) → IsStoppedAs P cells z end s

-- Where no move is left, a state has done what the sequential run has done at its end.
abbrev pub EveryStopIsTheEnd : Type 0 → Type 0
EveryStopIsTheEnd S = (P : Program S) (main : Start S) (cells : List ℕ) (z : Running S) (end : IsAtEnd P z) (s : State S) → Setting main cells → Sequential P main cells z → Agrees P main cells z s → IsStopped P s → IsStoppedAs P cells z end s

-- The answer of a stopped state is that of the sequential run: output and memory, or kind, line and the output
-- before the fault.
abbrev pub EveryAnswerIsTheResult : Type 0 → Type 0
EveryAnswerIsTheResult S = (P : Program S) (main : Start S) (cells : List ℕ) (s : State S) (a b : Answer)
    → Setting main cells → AgreesWithRun P main cells s → IsStopped P s → IsAnswer P s a → IsResult P main cells b → a ≡ b

-- The answer of the sequential run is one of each stopped state.
abbrev pub EveryResultIsTheAnswer : Type 0 → Type 0
EveryResultIsTheAnswer S = (P : Program S) (main : Start S) (cells : List ℕ) (s : State S) (b : Answer)
    → Setting main cells → AgreesWithRun P main cells s → IsStopped P s → IsResult P main cells b → IsAnswer P s b

-- A state has no two answers.
abbrev pub AnswersAreOne : Type 0 → Type 0
AnswersAreOne S = (P : Program S) (main : Start S) (cells : List ℕ) (z : Running S) (s : State S) (a b : Answer) → Agrees P main cells z s → IsAnswer P s a → IsAnswer P s b → a ≡ b

-- No move takes away what a state has.
abbrev pub Stays : (S : Type 0) → (Program S → State S → Type 0) → Type 0
Stays S F = (P : Program S) (main : Start S) (cells : List ℕ) (z : Running S) (s n : State S) → Agrees P main cells z s → Moved P s n → F P s → F P n

-- A done access stays done.
abbrev pub DoneStays : Type 0 → Type 0
DoneStays S = (c : ℕ) (p : List ℕ) → Stays S (λ P s. IsDone (accesses s c) p)

-- What a write waits for stays met.
abbrev pub WriteStays : Type 0 → Type 0
WriteStays S = (c : ℕ) (p : List ℕ) → Stays S (λ P s. IsWriteSatisfied (accesses s c) p)

-- What a read waits for stays met.
abbrev pub ReadStays : Type 0 → Type 0
ReadStays S = (c : ℕ) (p : List ℕ) → Stays S (λ P s. IsReadSatisfied (accesses s c) p)

-- What a join waits for stays met.
abbrev pub JoinStays : Type 0 → Type 0
JoinStays S = (c : ℕ) (op : Op) (p : List ℕ) → Stays S (λ P s. IsJoinSatisfied (accesses s c) op p)

-- A ready task stays ready.
abbrev pub ReadyStays : Type 0 → Type 0
ReadyStays S = (p : List ℕ) (x : Context) → Stays S (λ P s. IsReady s p x)

-- A complete task stays complete.
abbrev pub CompleteStays : Type 0 → Type 0
CompleteStays S = (p : List ℕ) → Stays S (λ P s. IsComplete P s p)

-- What an act of a task waits for stays met, for the children that the task has by then.
abbrev pub WaitStays : Type 0 → Type 0
WaitStays S = (P : Program S) (main : Start S) (cells : List ℕ) (z : Running S) (s m : State S) (p : List ℕ) (t : Task S) (n : ℕ) (act : Act S)
    → Agrees P main cells z s → Moved P s m → At s p t → n ≤ created_now P t.body → IsWaitMet P s p n act → IsWaitMet P m p n act

-- A task of a state is there after each move, and has gone on.
abbrev pub TaskGoesOn : Type 0 → Type 0
TaskGoesOn S = (P : Program S) (main : Start S) (cells : List ℕ) (z : Running S) (s n : State S) (p : List ℕ) (t : Task S)
    → Agrees P main cells z s → Moved P s n → At s p t → (u : Task S) × At n p u × GoesOn t u

-- Two tasks whose next acts may both be made touch no cell in conflict.
abbrev pub StepsExclude : Type 0 → Type 0
StepsExclude S = (P : Program S) (main : Start S) (cells : List ℕ) (z : Running S) (s : State S) (p q : List ℕ) (t u : Task S) (c : ℕ) (a b : Touch)
    → Setting main cells → Agrees P main cells z s → p ≢ q → CanStep P s p t → CanStep P s q u → Touches (act_now P t.body) c a false → Touches (act_now P u.body) c b false → Conflicts a false b false → ⊥

-- While a slot with a fold in it may be joined, no act that may be made touches the cell at once.
abbrev pub JoinExcludes : Type 0 → Type 0
JoinExcludes S = (P : Program S) (main : Start S) (cells : List ℕ) (z : Running S) (s : State S) (p q : List ℕ) (t u : Task S) (c : ℕ) (a : Touch) (op : Op) (past : List ℕ) (answer value : ℕ)
    → Setting main cells → Agrees P main cells z s → p ≢ q → CanStep P s p t → Touches (act_now P t.body) c a false
    → CanJoin P s q c op u → IsSuffix (answer ∷ past) u.body.found → stage_act P u.body.start past ≡ Folded c op value true → ⊥
