-- What a task has written, told without marks: by its done acts.
-- That a task with `out(x)` writes x before it reads it is a rule of this language; so is what counts as a write.
-- Read against: a task with out(x) that stores x and then loads it, where the store stands before the load; and one that
-- waits and then loads x, where nothing does, so that the load is no act: the fault Unwritten stands in its place.
use Rattle.std.specs.Prelude.{◌≡◌, ◌⊎◌, ◌↔◌, ℕ, Bool, true, List, [], ◌∷◌}
use Rattle.oss_syntax.specs.declared.access.Access.{Access}
use Rattle.oss_syntax.specs.declared.access.Mode.TheVariants.{Write}
use Rattle.oss_syntax.specs.declared.access.Op.{Op}
use Rattle.oss_syntax.specs.declared.fault.FaultKind.TheVariants as fault
use Rattle.oss_model.specs.Order.{IsSuffix, IsIn}
use Rattle.oss_model.specs.Rights.{Touch, Writes, Holds, Unwritten, Written, in_access}
use Rattle.oss_model.specs.Context.{child_context, right_of, mark_of}
use Rattle.oss_model.specs.Bodies.{Order, Ask, Program, Act, Frame, Start, Touches, ask_of, stack_from, stage_act}
use Rattle.oss_model.specs.Bodies.Act.{Store, Folded, Created, Fault}

-- The act writes the cell for the task that does it: it stores to it, folds into it, or creates a task that may write it.
pub data IsWriting {S : Type 0} (f : Frame S) : Act S → ℕ → Type 0 where
  stores : {c v : ℕ} → IsWriting f (Store c v) c
  folds : {c : ℕ} {op : Op} {v : ℕ} {slot : Bool} → IsWriting f (Folded c op v slot) c
  creates : {o : Order S} {i strong : Bool} {c : ℕ} → right_of (child_context f.context o.clauses o.last) c ≡ Holds Write strong → IsWriting f (Created o i) c

-- The body's own task has done an act before this stage that writes the cell.
pub record WrittenBefore {S : Type 0} (P : Program S) (b : Start S) (past : List ℕ) (c : ℕ) : Type 0 where
  pub before : List ℕ
  pub answer : ℕ
  pub happened : IsSuffix (answer ∷ before) past
  pub alone : (stack_from P b before).inner ≡ []
  pub writes : IsWriting (stack_from P b before).base (stage_act P b before) c

-- The cell has a value for the body's own task: it was written when the task began, or by it since.
abbrev pub HasValue : {S : Type 0} → Program S → Start S → List ℕ → ℕ → Type 0
HasValue P b past c = (mark_of b.context c ≡ Written) ⊎ WrittenBefore P b past c

-- The touch reads the old value.
abbrev pub NeedsValue : Touch → Type 0
NeedsValue Writes = ⊥
NeedsValue _ = Unit {0}

-- What a task loads, or folds into under a right to write, has a value for it.
abbrev pub EveryReadHasAValue : Type 0 → Type 0
EveryReadHasAValue S = (P : Program S) (b : Start S) (past : List ℕ) (c : ℕ) (t : Touch) (slot : Bool)
    → (stack_from P b past).inner ≡ [] → right_of b.context c ≡ Holds Write true → Touches (stage_act P b past) c t slot → NeedsValue t → HasValue P b past c

-- The ask is a touch of the cell.
abbrev pub AsksFor : {S : Type 0} → Ask S → ℕ → Type 0
AsksFor (Ask.Read d) c = d ≡ c
AsksFor (Ask.Write d v) c = d ≡ c
AsksFor (Ask.Fold d op v) c = d ≡ c
AsksFor _ c = ⊥

-- A task that touches a cell which has a value for it does not stand before the fault Unwritten.
abbrev pub NoValueIsMissed : Type 0 → Type 0
NoValueIsMissed S = (P : Program S) (b : Start S) (past : List ℕ) (c line : ℕ) (key : List ℕ)
    → (stack_from P b past).inner ≡ [] → AsksFor (ask_of P (stack_from P b past).base).ask c → HasValue P b past c → stage_act P b past ≡ Fault fault.Unwritten line key → ⊥

-- A new task has a cell unwritten exactly where it may write it, and each of its clauses that names it is of `out` or `weakout`.
abbrev pub OutStartsUnwritten : Type 0 → Type 0
OutStartsUnwritten S = (f : Frame S) (o : Order S) (c : ℕ)
    → (mark_of (child_context f.context o.clauses o.last) c ≡ Unwritten) ↔ (((strong : Bool) × (right_of (child_context f.context o.clauses o.last) c ≡ Holds Write strong)) × ((a : Access) → IsIn a o.clauses → in_access a c ≡ true → a.fresh ≡ true))
