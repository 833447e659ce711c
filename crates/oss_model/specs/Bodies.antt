-- Bodies: what a program asks for, what the judge makes of it, and how a body stands after the answers to its
-- acts.
-- A program is known only by its asks: from what a body runs and the answers so far to the next ask. Nothing
-- here speaks of C. A creation, a taskwait, a taskwait on and a release are the directives of OmpSs-2; a task
-- of a final task is included: it runs in its creator's body (OmpSs-2, task directive, final clause).
-- Read against: a final task whose statement creates a task that prints, so that the print has a key below the
-- final task's, though the machine has no task there; and a task of a false if, x = 1, before x = 2, where an
-- await stands between the two stores. A task with out(x) that stores x and then loads it goes on; one that loads x
-- first stands before the fault Unwritten.
use Rattle.std.specs.Prelude.{ℕ, ◌+◌, ◌%◌, ◌^◌, Bool, true, false, ◌||◌, not, if◌then◌else◌, List, [], ◌∷◌, ℤ, Option, Some, None}
use Rattle.oss_syntax.specs.declared.access.Access.{Access}
use Rattle.oss_syntax.specs.declared.access.Op.{Op}
use Rattle.oss_syntax.specs.declared.fault.FaultKind.{FaultKind}
use Rattle.oss_syntax.specs.declared.fault.FaultKind.TheVariants as fault
use Rattle.oss_model.specs.Rights.{Right, Touch, Reads, Writes, Folds, touch_fault, is_fold}
use Rattle.oss_model.specs.Context.{Context, tick_fault, create_fault, creation_fault, release_fault, wait_on_fault, child_context, lend, made, wrote, release, waited_on, right_of, lent_of, mark_of, waited}

-- What a new task is to run, and the clauses of its creation.
pub record Order (S : Type 0) : Type 0 where
  -- what the body runs
  pub script : S
  pub clauses : List Access
  -- the value of if, and of final; whether the clause wait stands
  pub when : Bool
  pub last : Bool
  pub wait : Bool
  -- a wish of the program, which has no effect on what may happen
  pub priority : ℤ

-- What a body asks for next, before it is judged. Begin stands before the clauses of a creation, which Create
-- then has; Begin and Await are no acts by themselves.
pub data Ask (S : Type 0) : Type 0 where
  Begin : Ask S
  Tick : Ask S
  Read : (cell : ℕ) → Ask S
  Write : (cell value : ℕ) → Ask S
  Fold : (cell : ℕ) (op : Op) (value : ℕ) → Ask S
  Create : (order : Order S) → Ask S
  Await : Ask S
  Wait : Ask S
  WaitOn : (named : List Access) → Ask S
  Release : (clauses : List Access) → Ask S
  Print : (text : List ℕ) → Ask S
  End : Ask S
  Fails : (kind : FaultKind) → Ask S

-- An ask, and the line to which a fault of it belongs.
pub record Asked (S : Type 0) : Type 0 where
  pub ask : Ask S
  pub line : ℕ

-- A program: the next ask of a body that runs this script, after these answers, the newest first. The answer to
-- a load is the value that it found, and every other answer is 0.
abbrev pub Program : Type 0 → Type 0
Program S = S → List ℕ → Asked S

-- What a body does next, once it is judged. A fold goes to the slot of the body's own task where its right is
-- that of a reduction; a creation, and a release, may be of an included task; a print and a fault bear their
-- keys. Over: the body has ended, and does nothing.
pub data Act (S : Type 0) : Type 0 where
  Ticked : Act S
  Load : (cell : ℕ) → Act S
  Store : (cell value : ℕ) → Act S
  Folded : (cell : ℕ) (op : Op) (value : ℕ) (slot : Bool) → Act S
  Created : (order : Order S) (included : Bool) → Act S
  Awaited : Act S
  Waited : Act S
  WaitedOn : (named : List Access) → Act S
  Releases : (clauses : List Access) (included : Bool) → Act S
  Printed : (key text : List ℕ) → Act S
  Ended : Act S
  Fault : (kind : FaultKind) (line : ℕ) (key : List ℕ) → Act S
  -- the body has ended, and does nothing
  Over : Act S

-- One task of a body: the body's own, or one that is included.
pub record Frame (S : Type 0) : Type 0 where
  pub script : S
  pub context : Context
  -- the path of the task
  pub path : List ℕ
  -- the answers to its asks, the newest first
  pub answers : List ℕ
  -- an await of the newest child stands before the next ask
  pub awaits : Bool

-- A body as it stands: its own task, the included tasks above it, the newest first, and whether it has ended.
pub record Stack (S : Type 0) : Type 0 where
  pub base : Frame S
  pub inner : List (Frame S)
  pub ended : Bool

-- How a body starts.
pub record Start (S : Type 0) : Type 0 where
  pub order : Order S
  pub context : Context
  pub path : List ℕ

-- A body: its start, and the answers to its done acts, the newest first. All else is a function of these.
pub record Body (S : Type 0) : Type 0 where
  pub start : Start S
  pub found : List ℕ

-- The key at which a task acts.
abbrev pub key_of : {S : Type 0} → Frame S → List ℕ
key_of f = f.context.created ∷ f.path

-- An act, or the fault that the judge finds in its place.
abbrev pub judged_act : {S : Type 0} → Frame S → ℕ → Option FaultKind → Act S → Act S
judged_act f line None act = act
judged_act f line (Some kind) act = Fault kind line (key_of f)

-- A number as a cell keeps it (C11 6.2.5p9, for 64 bits).
abbrev pub word_of : ℕ → ℕ
word_of v = v % 2 ^ 64

-- The act that an ask of the task that acts is: slots has the rights of the body's own task, and included says
-- that another task acts. A silent ask that is left stands behind two others, as no code of a program has it;
-- so it counts as a fault.
abbrev pub act_of_ask : {S : Type 0} → (ℕ → Right) → Bool → Frame S → Ask S → ℕ → Act S
act_of_ask slots included f Begin line = judged_act f line (create_fault f.context) (Fault fault.TooManyTasks line (key_of f))
act_of_ask slots included f Tick line = judged_act f line (tick_fault f.context) Ticked
act_of_ask slots included f (Read c) line = judged_act f line (touch_fault (right_of f.context c) (lent_of f.context c) (mark_of f.context c) Reads) (Load c)
act_of_ask slots included f (Write c v) line = judged_act f line (touch_fault (right_of f.context c) (lent_of f.context c) (mark_of f.context c) Writes) (Store c (word_of v))
act_of_ask slots included f (Fold c op v) line = judged_act f line (touch_fault (right_of f.context c) (lent_of f.context c) (mark_of f.context c) (Folds op)) (Folded c op (word_of v) (is_fold (slots c)))
act_of_ask slots included f (Create o) line = judged_act f line (creation_fault f.context o.clauses (f.context.final || o.last)) (Created o f.context.final)
act_of_ask slots included f Await line = Fault fault.TooManyTasks line (key_of f)
act_of_ask slots included f Wait line = Waited
act_of_ask slots included f (WaitOn named) line = judged_act f line (wait_on_fault f.context named) (WaitedOn named)
act_of_ask slots included f (Release clauses) line = judged_act f line (release_fault f.context clauses) (Releases clauses included)
act_of_ask slots included f (Print text) line = Printed (key_of f) text
act_of_ask slots included f End line = Ended
act_of_ask slots included f (Fails kind) line = Fault kind line (key_of f)

module _ {S : Type 0} (P : Program S) where
  -- The next ask of a task.
  abbrev pub ask_of : Frame S → Asked S
  ask_of f = P f.script f.answers

  -- The next act of a task.
  abbrev pub frame_act : (ℕ → Right) → Bool → Frame S → Bool → Act S
  frame_act slots included f true = Awaited
  frame_act slots included f false = act_of_ask slots included f (ask_of f).ask (ask_of f).line

  -- The next act of a body.
  abbrev pub stack_act : (ℕ → Right) → Frame S → List (Frame S) → Bool → Act S
  stack_act slots base inner true = Over
  stack_act slots base [] false = frame_act slots false base base.awaits
  stack_act slots base (f ∷ fs) false = frame_act slots true f f.awaits

-- A task after one more answer.
abbrev pub answered_frame : {S : Type 0} → ℕ → Frame S → Frame S
answered_frame v f = record f { answers = v ∷ f.answers }

-- A task with this context in place of its own.
abbrev pub with_context : {S : Type 0} → Context → Frame S → Frame S
with_context x f = record f { context = x }

-- The frame of a new task.
abbrev pub child_frame : {S : Type 0} → Frame S → Order S → Frame S
child_frame f o = record {
  script = o.script;
  context = child_context f.context o.clauses o.last;
  path = f.context.created ∷ f.path;
  answers = [];
  awaits = false;
}

-- The context of a creator that has created one more task.
abbrev pub one_more_created : Context → Context
one_more_created x = record x { created = x.created + 1 }

-- The context of a creator: only where the if is true it lends.
abbrev pub lent_when : Bool → (ℕ → Right) → Context → Context
lent_when true given x = lend given x
lent_when false given x = x

-- The context of a creator whose new task has these rights, included or not: what the new task may write counts as
-- written.
abbrev pub made_by : {S : Type 0} → Order S → Frame S → Context → Context
made_by o f x = made (right_of (child_context f.context o.clauses o.last)) x

-- The creator after a creation that is not included. Under a false if it awaits the new task.
abbrev pub after_creation : {S : Type 0} → Order S → Frame S → Frame S
after_creation o f = record {
  script = f.script;
  context = made_by o f (lent_when o.when (right_of (child_context f.context o.clauses o.last)) (one_more_created f.context));
  path = f.path;
  answers = 0 ∷ f.answers;
  awaits = not o.when;
}

-- A task after an act that leaves it the one that acts.
abbrev pub frame_after : {S : Type 0} → Act S → ℕ → Frame S → Frame S
frame_after Ticked v f = answered_frame v (with_context (record (f.context) { ticks = f.context.ticks + 1 }) f)
frame_after (Store c value) v f = answered_frame v (with_context (wrote c f.context) f)
frame_after (Folded c op value slot) v f = answered_frame v (with_context (wrote c f.context) f)
frame_after (Created o included) v f = after_creation o f
frame_after Awaited v f = record f { awaits = false }
frame_after Waited v f = answered_frame v (with_context (waited f.context) f)
frame_after (WaitedOn named) v f = answered_frame v (with_context (waited_on named f.context) f)
frame_after (Releases clauses included) v f = answered_frame v (with_context (release clauses f.context) f)
frame_after _ v f = answered_frame v f

-- The creator while an included task runs.
abbrev pub including_frame : {S : Type 0} → Order S → Frame S → Frame S
including_frame o f = answered_frame 0 (with_context (made_by o f (one_more_created f.context)) f)

-- A body whose own task acts, after the act.
abbrev pub base_after : {S : Type 0} → Act S → ℕ → Frame S → Stack S
base_after Ended v base = record { base = base; inner = []; ended = true }
base_after (Created o true) v base = record { base = including_frame o base; inner = child_frame base o ∷ []; ended = false }
base_after act v base = record { base = frame_after act v base; inner = []; ended = false }

-- A body in which an included task acts, after the act.
abbrev pub inner_after : {S : Type 0} → Act S → ℕ → Frame S → Frame S → List (Frame S) → Stack S
inner_after Ended v base f fs = record { base = base; inner = fs; ended = false }
inner_after (Created o included) v base f fs = record { base = base; inner = child_frame f o ∷ including_frame o f ∷ fs; ended = false }
inner_after act v base f fs = record { base = base; inner = frame_after act v f ∷ fs; ended = false }

-- A body after an act.
abbrev pub stack_after : {S : Type 0} → Act S → ℕ → Frame S → List (Frame S) → Stack S
stack_after act v base [] = base_after act v base
stack_after act v base (f ∷ fs) = inner_after act v base f fs

module _ {S : Type 0} (P : Program S) where
  -- A task that has passed an ask which is no act.
  abbrev pub past_ask : Frame S → Ask S → Frame S
  past_ask f Begin = elim (create_fault f.context) [ None ↦ answered_frame 0 f | Some kind ↦ f ]
  past_ask f Await = if f.awaits then f else answered_frame 0 f
  past_ask f _ = f

  -- A task that has passed its next ask, if that is no act.
  abbrev pub past_silent : Frame S → Frame S
  past_silent f = past_ask f (ask_of P f).ask

  -- A task before its next act: two silent asks stand in a row at most.
  abbrev pub settled_frame : Frame S → Frame S
  settled_frame f = past_silent (past_silent f)

  -- A body before its next act, by its parts.
  abbrev pub settled_parts : Frame S → List (Frame S) → Bool → Stack S
  settled_parts base [] ended = record { base = settled_frame base; inner = []; ended = ended }
  settled_parts base (f ∷ fs) ended = record { base = base; inner = settled_frame f ∷ fs; ended = ended }

  -- A body before its next act.
  abbrev pub settled_stack : Stack S → Stack S
  settled_stack s = settled_parts s.base s.inner s.ended

  -- A body after its next act, with this answer.
  abbrev pub next_stack : (ℕ → Right) → ℕ → Stack S → Stack S
  next_stack slots v s = settled_stack (stack_after (stack_act P slots s.base s.inner s.ended) v s.base s.inner)

  -- The own task of a body that has not begun.
  abbrev pub start_frame : Start S → Frame S
  start_frame b = record { script = b.order.script; context = b.context; path = b.path; answers = []; awaits = false }

  -- How a body stands after these answers.
  unfoldable pub stack_from : Start S → List ℕ → Stack S
  stack_from b [] = record { base = settled_frame (start_frame b); inner = []; ended = false }
  stack_from b (v ∷ vs) = next_stack (right_of b.context) v (stack_from b vs)

  -- The next act of a body.
  unfoldable pub act_of : (ℕ → Right) → Stack S → Act S
  act_of slots s = stack_act P slots s.base s.inner s.ended

-- How the body of a new task starts.
unfoldable pub child_start : {S : Type 0} → Frame S → Order S → Start S
child_start f o = record { order = o; context = child_context f.context o.clauses o.last; path = f.context.created ∷ f.path }

-- The act that stands next after these answers. A stage of a body is an end of its list of answers.
unfoldable pub stage_act : {S : Type 0} → Program S → Start S → List ℕ → Act S
stage_act P b past = act_of P (right_of b.context) (stack_from P b past)

-- How many tasks the body's own task has created by then.
unfoldable pub stage_created : {S : Type 0} → Program S → Start S → List ℕ → ℕ
stage_created P b past = (stack_from P b past).base.context.created

-- The task that acts next.
abbrev pub top_frame : {S : Type 0} → Frame S → List (Frame S) → Frame S
top_frame base [] = base
top_frame base (f ∷ fs) = f

-- The key of the act that stands next after these answers. An act of an included task has that task's key.
unfoldable pub stage_key : {S : Type 0} → Program S → Start S → List ℕ → List ℕ
stage_key P b past = key_of (top_frame (stack_from P b past).base (stack_from P b past).inner)

-- The touch of a cell that an act is; the flag says that it goes to the slot.
pub data Touches {S : Type 0} : Act S → ℕ → Touch → Bool → Type 0 where
  load : {c : ℕ} → Touches (Load c) c Reads false
  store : {c v : ℕ} → Touches (Store c v) c Writes false
  folded : {c : ℕ} {op : Op} {v : ℕ} {slot : Bool} → Touches (Folded c op v slot) c (Folds op) slot

-- The body does not go on from this act: it stands before a fault, or has ended.
abbrev pub IsHalt : {S : Type 0} → Act S → Type 0
IsHalt (Fault kind line key) = Unit {0}
IsHalt Over = Unit {0}
IsHalt _ = ⊥

-- The act is a fault.
abbrev pub IsFault : {S : Type 0} → Act S → Type 0
IsFault (Fault kind line key) = Unit {0}
IsFault _ = ⊥
