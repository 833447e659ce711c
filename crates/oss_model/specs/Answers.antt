-- The answer of the sequential run, and that of a state in which no move is left.
-- Which fault is the answer, and which prints count before it, are rules of this language.
-- Read against: a task with out(x) that prints 1 and 2, a task with inout(y) that prints 3 and divides by y,
-- which is 0, and a print of 4 in main behind them. The answer is the division's fault with the output 1, 2, 3:
-- main's print may have been made, but its key is past the fault's.
use Rattle.std.specs.Prelude.{◌≡◌, ℕ, List, [], ◌∷◌, ◌++◌, Option, Some, None}
use Rattle.oss_syntax.specs.declared.fault.FaultKind.{FaultKind}
use Rattle.oss_model.specs.declared.answer.Answer.{Answer}
use Rattle.oss_model.specs.declared.answer.Answer.TheVariants as answers
use Rattle.oss_model.specs.Order.{IsIn, IsEarlierKey}
use Rattle.oss_model.specs.Bodies.{Program, Act, Start, stage_act}
use Rattle.oss_model.specs.Bodies.Act.{Printed, Fault, Over}
use Rattle.oss_model.specs.Machine.{Task, State, At, IsComplete}
use Rattle.oss_model.specs.Moves.{act_now, SomeMove}
use Rattle.oss_model.specs.Memory.{Event, Happened, IsSorted}
use Rattle.oss_model.specs.Sequence.{Running, Sequential, IsAtEnd}

-- A key is not past a bound. Without a bound none is.
abbrev pub IsNotPast : Option (List ℕ) → List ℕ → Type 0
IsNotPast None key = Unit {0}
IsNotPast (Some last) key = IsEarlierKey last key → ⊥

-- A print that is done in the state, with a key that is not past the bound.
pub record DonePrint {S : Type 0} (P : Program S) (s : State S) (bound : Option (List ℕ)) (e : Event S) : Type 0 where
  pub key : List ℕ
  pub text : List ℕ
  pub prints : stage_act P e.start e.past ≡ Printed key text
  pub within : IsNotPast bound key
  pub happened : Happened s e

-- The text of a print.
abbrev pub text_of : {S : Type 0} → Act S → List ℕ
text_of (Printed key text) = text
text_of _ = []

-- The texts of acts, one behind the other.
abbrev pub texts : {S : Type 0} → Program S → List (Event S) → List ℕ
texts P [] = []
texts P (e ∷ es) = text_of (stage_act P e.start e.past) ++ texts P es

-- The output of a state up to a bound: the texts of exactly the done prints that are not past it, in point
-- order.
pub record IsOutput {S : Type 0} (P : Program S) (s : State S) (bound : Option (List ℕ)) (output : List ℕ) : Type 0 where
  pub list : List (Event S)
  pub sorted : IsSorted P list
  pub only : (e : Event S) → IsIn e list → DonePrint P s bound e
  pub all : (e : Event S) → DonePrint P s bound e → IsIn e list
  pub output_is : output ≡ texts P list

-- The answer of the sequential run: main has ended, with the output and the memory; or the task that runs
-- stands before a fault, with its kind, its line and the output before it.
pub data IsResult {S : Type 0} (P : Program S) (main : Start S) (cells : List ℕ) : Answer → Type 0 where
  -- main has ended
  ends : {z : Running S} → Sequential P main cells z → (end : IsAtEnd P z) → act_now P end.task.body ≡ Over → IsResult P main cells (answers.Done z.printed z.state.cells)
  -- the task that runs stands before a fault
  fails : {z : Running S} {kind : FaultKind} {line : ℕ} {key : List ℕ} → Sequential P main cells z → (end : IsAtEnd P z) → act_now P end.task.body ≡ Fault kind line key → IsResult P main cells (answers.Fault kind line z.printed)

-- No move may be made.
abbrev pub IsStopped : {S : Type 0} → Program S → State S → Type 0
IsStopped P s = SomeMove P s → ⊥

-- Each task is complete.
abbrev pub IsFinished : {S : Type 0} → Program S → State S → Type 0
IsFinished P s = (p : List ℕ) (t : Task _) → At s p t → IsComplete P s p

-- No body stands before a fault with a key before this one.
abbrev pub IsLeastFault : {S : Type 0} → Program S → State S → List ℕ → Type 0
IsLeastFault P s key = (q : List ℕ) (u : Task _) (kind : FaultKind) (line : ℕ) (other : List ℕ) → At s q u → act_now P u.body ≡ Fault kind line other → IsEarlierKey other key → ⊥

-- The answer of a stopped state: finished, with the output in point order and the memory; or the fault with the
-- least key, with the prints that are not past it.
pub data IsAnswer {S : Type 0} (P : Program S) (s : State S) : Answer → Type 0 where
  finished : {output : List ℕ} → IsFinished P s → IsOutput P s None output → IsAnswer P s (answers.Done output s.cells)
  faulted : (p : List ℕ) (t : Task S) {kind : FaultKind} {line : ℕ} {key output : List ℕ} → At s p t → act_now P t.body ≡ Fault kind line key → IsLeastFault P s key → IsOutput P s (Some key) output → IsAnswer P s (answers.Fault kind line output)
