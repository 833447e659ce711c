-- Programs whose bodies do the same acts, though what the bodies run may differ. The machine asks of a program no more than what its bodies do,
-- so it makes the same moves with both. A relation tells which beginnings of bodies go together; whether it may is settled by what the bodies do.
-- Read against: a program whose scripts are statements, and one whose scripts are places in a code. In each main creates a task with out(x), which
-- stores 5, and ends. The relation has the two beginnings of main and the two of the task. When main has created its task, each state has a
-- task 0.0, with another script but with the same path, answers and cells, and its store is a move of both. The relation of the beginnings
-- of main alone is none of programs that do the same: it does not have what the creations begin. Nor is one where the second task stores 6.
use Rattle.std.specs.Prelude.{◌≡◌, ℕ, Bool, true, false, List, Option, Some, None}
use Rattle.oss_syntax.specs.declared.access.Access.{Access}
use Rattle.oss_syntax.specs.declared.access.Op.{Op}
use Rattle.oss_syntax.specs.declared.fault.FaultKind.{FaultKind}
use Rattle.oss_model.specs.Bodies.{Order, Program, Act, Frame, Start, Body, stack_from, child_start}
use Rattle.oss_model.specs.Bodies.Act.{Ticked, Load, Store, Folded, Created, Awaited, Waited, WaitedOn, Releases, Printed, Ended, Fault, Over}
use Rattle.oss_model.specs.Machine.{Task, State, find}
use Rattle.oss_model.specs.Moves.{act_now, is_ended, key_now}

-- The acts of two tasks of bodies are the same, but for what the tasks run that they create. A new task of the machine begins as the relation
-- says; one that is included is a part of its creator's body, so the acts of that body tell what it does.
pub data AreActsAlike {S T : Type 0} (R : Start S → Start T → Type 0) (f : Frame S) (g : Frame T) : Act S → Act T → Type 0 where
  both_tick : AreActsAlike R f g Ticked Ticked
  both_load : {cell : ℕ} → AreActsAlike R f g (Load cell) (Load cell)
  both_store : {cell value : ℕ} → AreActsAlike R f g (Store cell value) (Store cell value)
  both_fold : {cell : ℕ} {op : Op} {value : ℕ} {slot : Bool} → AreActsAlike R f g (Folded cell op value slot) (Folded cell op value slot)
  both_create : {o : Order S} {q : Order T} → R (child_start f o) (child_start g q) → AreActsAlike R f g (Created o false) (Created q false)
  both_include : {o : Order S} {q : Order T} → AreActsAlike R f g (Created o true) (Created q true)
  both_await : AreActsAlike R f g Awaited Awaited
  both_wait : AreActsAlike R f g Waited Waited
  both_wait_on : {named : List Access} → AreActsAlike R f g (WaitedOn named) (WaitedOn named)
  both_release : {clauses : List Access} {included : Bool} → AreActsAlike R f g (Releases clauses included) (Releases clauses included)
  both_print : {key text : List ℕ} → AreActsAlike R f g (Printed key text) (Printed key text)
  both_end : AreActsAlike R f g Ended Ended
  both_fault : {kind : FaultKind} {line : ℕ} {key : List ℕ} → AreActsAlike R f g (Fault kind line key) (Fault kind line key)
  both_over : AreActsAlike R f g Over Over

-- Two bodies stand alike: both have ended or neither has, the contexts of their own tasks are one, and they do the same next, at one key.
pub record AreBodiesAlike {S T : Type 0} (P : Program S) (Q : Program T) (R : Start S → Start T → Type 0) (b : Body S) (c : Body T) : Type 0 where
  pub ended : is_ended P b ≡ is_ended Q c
  pub context : (stack_from P b.start b.found).base.context ≡ (stack_from Q c.start c.found).base.context
  pub key : key_now P b ≡ key_now Q c
  pub acts : AreActsAlike R (stack_from P b.start b.found).base (stack_from Q c.start c.found).base (act_now P b) (act_now Q c)

-- Two bodies begin alike: with one path, one context and one clause wait, and whatever answers they get, they stand alike.
pub record AreStartsAlike {S T : Type 0} (P : Program S) (Q : Program T) (R : Start S → Start T → Type 0) (b : Start S) (c : Start T) : Type 0 where
  pub path : b.path ≡ c.path
  pub context : b.context ≡ c.context
  pub wait : b.order.wait ≡ c.order.wait
  pub each : (found : List ℕ) → AreBodiesAlike P Q R (record { start = b; found = found }) (record { start = c; found = found })

-- The relation has only beginnings that are alike, where what they create begins as it says.
abbrev pub IsBisimulation : {S T : Type 0} → Program S → Program T → (Start S → Start T → Type 0) → Type 0
IsBisimulation P Q R = (b : Start _) (c : Start _) → R b c → AreStartsAlike P Q R b c

-- The relation, seen from the other side.
abbrev pub turned : {S T : Type 0} → (Start S → Start T → Type 0) → Start T → Start S → Type 0
turned R c b = R b c

-- The tasks began as the relation says, and since then have got the same answers and given up the same cells.
pub record AreTasksAlike {S T : Type 0} (R : Start S → Start T → Type 0) (t : Task S) (u : Task T) : Type 0 where
  pub start : R t.body.start u.body.start
  pub found : t.body.found ≡ u.body.found
  pub given : t.given ≡ u.given

-- There are two tasks, which are alike, or none.
abbrev pub AreFoundAlike : {S T : Type 0} → (Start S → Start T → Type 0) → Option (Task S) → Option (Task T) → Type 0
AreFoundAlike R None None = Unit {0}
AreFoundAlike R None (Some u) = ⊥
AreFoundAlike R (Some t) None = ⊥
AreFoundAlike R (Some t) (Some u) = AreTasksAlike R t u

-- The states have the same memory, and at each path tasks that are alike.
pub record IsAlike {S T : Type 0} (R : Start S → Start T → Type 0) (s : State S) (n : State T) : Type 0 where
  pub cells : s.cells ≡ n.cells
  pub tasks : (p : List ℕ) → AreFoundAlike R (find s.tasks p) (find n.tasks p)
