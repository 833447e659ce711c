-- The explanation of the fault to which the sequential run of a program comes: who was about to do what, why it may not, how it came to be, and what the clauses name.
-- Read against the worked examples of the text. `task out(x) x = 5; task in(x) out(y) y = x + 1; printf y` in main, without a wait: main asks for a read of y, which is Lent; child 1 alone holds
-- y, by `out`; child 0 has no access to it. `task inout(x) { task in(y) ; }`: the task 0.0 asks for a creation, which is NotCovered; y is the one cell that fails, 0.0 has no word for it, and
-- the new task, 0.0.0, would have it by `in`. A task with `out(x)` alone that begins with `x = x + 1` is told by the word `out` with which it was created.
-- A task that was created is told with the spot where its body begins, by which the label of its pragma is found.
-- What a division, a shift and a place outside of its global have for numbers is no part of what a body asks, and so none of an explanation: what failed is told beside it (`Failures` of `oss_machine`).
-- A code fails by itself at a division, a shift, a call too many or a place outside of its global. That it never fails otherwise, or at an await, is not proved; so what is told of those is defined too.
use Rattle.std.specs.Prelude.{◌≡◌, ℕ, ◌==◌, Bool, true, false, ◌&&◌, ◌||◌, List, [], ◌∷◌, Option, Some, None}
use Rattle.oss_syntax.specs.declared.access.Access.{Access}
use Rattle.oss_syntax.specs.declared.access.Mode.TheVariants.{Fold as Folding}
use Rattle.oss_syntax.specs.declared.access.Op.{Op}
use Rattle.oss_syntax.specs.declared.fault.FaultKind.{FaultKind}
use Rattle.oss_syntax.specs.declared.fault.FaultKind.TheVariants as fault
use Rattle.oss_syntax.specs.declared.tree.program.Item.{Item}
use Rattle.oss_model.specs.Bodies.{Ask, Await, Begin, Create, Fails, Fold, Frame, Order, Program, Read, Release, Start, Tick, WaitOn, Write, ask_of}
use Rattle.oss_model.specs.Bodies.Act.{Fault}
use Rattle.oss_model.specs.Context.{Context, child_context, in_clauses, lacks_right, right_of}
use Rattle.oss_model.specs.Machine.{State}
use Rattle.oss_model.specs.Moves.{act_now}
use Rattle.oss_model.specs.Order.{written}
use Rattle.oss_model.specs.Rights.{Folds, Holds, Reads, Touch, Writes, holds_uncovered, is_mixed, is_released, mark_from, right_from}
use Rattle.oss_model.specs.Sequence.{IsAtEnd, Running, Sequential}
use Rattle.oss_body.specs.Acting.{acting}
use Rattle.oss_pieces.specs.declared.piece.Piece.{Piece}
use Rattle.oss_pieces.specs.Pieces.{ArePieces}
use Rattle.oss_explanation.specs.declared.explained.Deed.{Deed}
use Rattle.oss_explanation.specs.declared.explained.Deed.TheVariants as deed
use Rattle.oss_explanation.specs.declared.explained.Explained.{Explained}
use Rattle.oss_explanation.specs.declared.explained.Failing.{Failing}
use Rattle.oss_explanation.specs.declared.explained.Reason.{Reason}
use Rattle.oss_explanation.specs.declared.explained.Reason.TheVariants as reason
use Rattle.oss_explanation.specs.declared.explained.Touching.{Touching}
use Rattle.oss_explanation.specs.declared.explained.Touching.TheVariants as touching
use Rattle.oss_explanation.specs.declared.explained.Word.{Word}
use Rattle.oss_explanation.specs.Held.{AreFailing, AreHeld, all_words, clause_words, once, word_in, word_of}
use Rattle.oss_explanation.specs.Lives.{AreHolders, HasWords, IsChain, IsReleased, told_later}

-- The failure is neither a call too many nor a division nor a shift.
abbrev pub IsMiss : FaultKind → Type 0
IsMiss fault.TooDeep = ⊥
IsMiss fault.DivideByZero = ⊥
IsMiss fault.ShiftRange = ⊥
IsMiss _ = Unit {0}

-- What is told of an ask. (A failure of the program's own meaning is told by its kind.)
pub data IsDeed {S : Type 0} (all : List Item) : Ask S → Deed → Type 0 where
  ticks : IsDeed all Tick deed.Ticks
  reads : {c : ℕ} → IsDeed all (Read c) (deed.Reads c)
  writes : {c v : ℕ} → IsDeed all (Write c v) (deed.Writes c)
  folds : {c : ℕ} {o : Op} {v : ℕ} → IsDeed all (Fold c o v) (deed.Folds c o)
  begins : IsDeed all Begin deed.Begins
  awaits : IsDeed all Await deed.Begins
  creates : {o : Order S} → IsDeed all (Create o) deed.Creates
  releases : {clauses : List Access} {ps : List Piece} → ArePieces (in_clauses clauses) all 0 0 ps → IsDeed all (Release clauses) (deed.Releases ps)
  waits_on : {named : List Access} {ps : List Piece} → ArePieces (in_clauses named) all 0 0 ps → IsDeed all (WaitOn named) (deed.WaitsOn ps)
  calls : IsDeed all (Fails fault.TooDeep) deed.Calls
  divides : IsDeed all (Fails fault.DivideByZero) deed.Divides
  shifts : IsDeed all (Fails fault.ShiftRange) deed.Shifts
  misses : {kind : FaultKind} → IsMiss kind → IsDeed all (Fails kind) deed.Misses

-- The ask is such a touch of the cell.
pub data AsksTouch {S : Type 0} : Ask S → ℕ → Touch → Type 0 where
  reads : {c : ℕ} → AsksTouch (Read c) c Reads
  writes : {c v : ℕ} → AsksTouch (Write c v) c Writes
  folds : {c : ℕ} {o : Op} {v : ℕ} → AsksTouch (Fold c o v) c (Folds o)

-- how a touch is told
abbrev pub touch_told : Touch → Touching
touch_told Reads = touching.Reading
touch_told Writes = touching.Writing
touch_told (Folds o) = touching.Folding o

-- The ask touches the cell, or names it.
abbrev pub names : {S : Type 0} → Ask S → ℕ → Bool
names (Read d) c = d == c
names (Write d v) c = d == c
names (Fold d o v) c = d == c
names (Create o) c = in_clauses o.clauses c
names (WaitOn named) c = in_clauses named c
names (Release clauses) c = in_clauses clauses c
names _ c = false

-- Why an ask of this task comes to a fault of this kind, where the task has its cells by these words. Bodies begin at these spots.
pub data IsReason {S : Type 0} (P : Program S) (spot : S → ℕ) (s : State S) (all : List Item) (f : Frame S) (own : ℕ → Option Word) : FaultKind → Ask S → Reason → Type 0 where
  fuel : IsReason P spot s all f own fault.OutOfFuel Tick (reason.OutOfFuel f.context.fuel)
  frames : IsReason P spot s all f own fault.TooDeep (Fails fault.TooDeep) reason.TooManyFrames
  deep_before : IsReason P spot s all f own fault.TooDeep Begin reason.TooDeep
  deep_after : {o : Order S} → IsReason P spot s all f own fault.TooDeep (Create o) reason.TooDeep
  many_before : IsReason P spot s all f own fault.TooManyTasks Begin reason.TooManyTasks
  many_awaited : IsReason P spot s all f own fault.TooManyTasks Await reason.TooManyTasks
  many_after : {o : Order S} → IsReason P spot s all f own fault.TooManyTasks (Create o) reason.TooManyTasks
  division : IsReason P spot s all f own fault.DivideByZero (Fails fault.DivideByZero) reason.Plain
  place : {kind : FaultKind} → IsMiss kind → IsReason P spot s all f own kind (Fails kind) reason.Plain
  shift : IsReason P spot s all f own fault.ShiftRange (Fails fault.ShiftRange) reason.ShiftRange
  mixed : {o : Order S} {cells : Failing} → AreFailing all (is_mixed (f.context.final || o.last) o.clauses) cells
      → IsReason P spot s all f own fault.MixedAccess (Create o) (reason.MixedAccess (once [] (clause_words (f.context.final || o.last) o.clauses cells.first)) cells)
  released : {ask : Ask S} {line : ℕ} {cells : Failing} → AreFailing all (λ c. names ask c && is_released (right_of f.context c)) cells → IsReleased P s f.path cells.first line
      → IsReason P spot s all f own fault.Released ask (reason.Released line cells)
  no_right : {ask : Ask S} {c : ℕ} {touch : Touch} → AsksTouch ask c touch → IsReason P spot s all f own fault.NoRight ask (reason.NoRight c (touch_told touch) (own c))
  creation : {o : Order S} {w : Word} {cells : Failing} → AreFailing all (λ c. holds_uncovered (right_of f.context c) (right_from (f.context.final || o.last) o.clauses c)) cells
      → word_of (right_from (f.context.final || o.last) o.clauses cells.first) (mark_from (f.context.final || o.last) o.clauses cells.first) ≡ Some w
      → IsReason P spot s all f own fault.NotCovered (Create o) (reason.CreationNotCovered w (own cells.first) cells)
  release : {clauses : List Access} {w : Word} {cells : Failing} → AreFailing all (λ c. holds_uncovered (right_of f.context c) (right_from false clauses c)) cells
      → word_of (right_from false clauses cells.first) (mark_from false clauses cells.first) ≡ Some w
      → IsReason P spot s all f own fault.NotCovered (Release clauses) (reason.ReleaseNotCovered w (own cells.first) cells)
  wait : {named : List Access} {cells : Failing} → AreFailing all (λ c. in_clauses named c && lacks_right (right_of f.context c)) cells
      → IsReason P spot s all f own fault.NotCovered (WaitOn named) (reason.WaitNotCovered cells)
  reduction : {ask : Ask S} {c : ℕ} {touch : Touch} {o : Op} → AsksTouch ask c touch → right_of f.context c ≡ Holds (Folding o) true
      → IsReason P spot s all f own fault.BadReduction ask (reason.BadReduction c o)
  lent : {ask : Ask S} {c : ℕ} {touch : Touch} {k line entry : ℕ} {x : Context} {w : Word} {ks : List ℕ} → AsksTouch ask c touch → (held : AreHolders P s f.path c touch k line x ks)
      → entry ≡ spot held.first.order.script → word_in x c ≡ Some w → IsReason P spot s all f own fault.Lent ask (reason.Lent c (written (k ∷ f.path)) line entry w (told_later f.path ks))
  unwritten : {ask : Ask S} {c : ℕ} {touch : Touch} → AsksTouch ask c touch → IsReason P spot s all f own fault.Unwritten ask (reason.Unwritten c)

-- By which words the new task would have its cells, where that is told: its clauses name a cell that is released or not covered.
abbrev pub wanted : {S : Type 0} → FaultKind → Ask S → Context → ℕ → Option Word
wanted fault.Released (Create o) x c = word_in (child_context x o.clauses o.last) c
wanted fault.NotCovered (Create o) x c = word_in (child_context x o.clauses o.last) c
wanted _ ask x c = None

-- The explanation is that of this task, which stands before a fault of this kind on this line in this state. Bodies begin at these spots.
pub record Explains {S : Type 0} (P : Program S) (spot : S → ℕ) (s : State S) (all : List Item) (f : Frame S) (kind : FaultKind) (line : ℕ) (e : Explained) : Type 0 where
  pub task : e.task ≡ written f.path
  pub next : e.next ≡ written (f.context.created ∷ f.path)
  pub on_line : e.line ≡ line
  pub deed_is : IsDeed all (ask_of P f).ask e.deed
  pub own : ℕ → Option Word
  pub words : HasWords P s f.path own
  pub reason_is : IsReason P spot s all f own kind (ask_of P f).ask e.reason
  pub chain : IsChain P spot s f.path e.chain
  pub holds : AreHeld all own all_words e.holds
  pub wants : AreHeld all (wanted kind (ask_of P f).ask f.context) all_words e.wants

-- The sequential run of the program, over these globals, comes to a fault, and this explains it. Bodies begin at these spots.
pub record IsExplained {S : Type 0} (P : Program S) (spot : S → ℕ) (main : Start S) (first : List ℕ) (all : List Item) (e : Explained) : Type 0 where
  pub stage : Running S
  pub run : Sequential P main first stage
  pub end : IsAtEnd P stage
  pub kind : FaultKind
  pub line : ℕ
  pub key : List ℕ
  pub fails : act_now P end.task.body ≡ Fault kind line key
  pub explains : Explains P spot stage.state all (acting P end.task.body.start end.task.body.found) kind line e
