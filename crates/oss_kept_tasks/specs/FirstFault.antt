-- Which of the tasks that are kept stand before a fault, and before the first of the program's order.
-- Read against: main has created two tasks; the first stands before a division by 0 on line 4, with the key 0.0.0, and the second before a load of a cell that it
-- does not name, on line 6, with the key 0.1.0; main waits. The first fault is that on line 4, whichever of the two tasks came to its fault before the other.
use Rattle.std.specs.Prelude.{◌≡◌, ℕ, ◌<◌, false, List, Option, Some, None, slice_get}
use Rattle.oss_syntax.specs.declared.fault.FaultKind.{FaultKind}
use Rattle.oss_model.specs.Order.{IsBefore, written}
use Rattle.oss_body.specs.declared.act.Act.TheVariants as acts
use Rattle.oss_body.specs.Places.{unwritten}
use Rattle.oss_body.specs.declared.body.Body.{Body}
use Rattle.oss_body.specs.Relation.{is_over, pending_of}
use Rattle.oss_kept_tasks.specs.declared.held.Held.{Held}

-- The task stands before a fault of this kind, on this line, with this key, which is a point.
pub record IsFaultAt (tasks : List Held) (v : ℕ) (kind : FaultKind) (line : ℕ) (key : List ℕ) : Type 0 where
  pub held : Held
  pub is : slice_get tasks v ≡ Some held
  pub running : is_over held.body ≡ false
  pub act : pending_of held.body ≡ acts.Fault kind line key
  pub keyed : written (unwritten key) ≡ key

-- The task stands before a fault, and no task before one with a key before its own.
pub record IsLeastFaultAt (tasks : List Held) (v : ℕ) (kind : FaultKind) (line : ℕ) (key : List ℕ) : Type 0 where
  pub fault : IsFaultAt tasks v kind line key
  pub least : (w : ℕ) (other : FaultKind) (row : ℕ) (place : List ℕ) → IsFaultAt tasks w other row place → IsBefore place key → ⊥

-- Some task stands before this fault, and no task before one with a key before its own.
abbrev pub IsFirstFault : List Held → FaultKind → ℕ → List ℕ → Type 0
IsFirstFault tasks kind line key = (v : ℕ) × IsLeastFaultAt tasks v kind line key

-- No task stands before a fault.
abbrev pub IsFaultless : List Held → Type 0
IsFaultless tasks = (v : ℕ) (kind : FaultKind) (line : ℕ) (key : List ℕ) → IsFaultAt tasks v kind line key → ⊥

-- The key of each fault that stands next is a point: it begins with main's 0.
abbrev pub AreKeyed : List Held → Type 0
AreKeyed tasks = (v : ℕ) (held : Held) (kind : FaultKind) (line : ℕ) (key : List ℕ) → slice_get tasks v ≡ Some held → is_over held.body ≡ false → pending_of held.body ≡ acts.Fault kind line key → written (unwritten key) ≡ key

-- The body has not ended, and stands before this fault.
pub record IsFaultOf (b : Body) (kind : FaultKind) (line : ℕ) (key : List ℕ) : Type 0 where
  pub running : is_over b ≡ false
  pub act : pending_of b ≡ acts.Fault kind line key

-- The body stands before no fault.
abbrev pub HasNoFault : Body → Type 0
HasNoFault b = (kind : FaultKind) (line : ℕ) (key : List ℕ) → IsFaultOf b kind line key → ⊥

-- The key of a fault before which the task stands is a point.
abbrev pub IsKeyedAt : List Held → ℕ → Type 0
IsKeyedAt tasks v = (held : Held) (kind : FaultKind) (line : ℕ) (key : List ℕ) → slice_get tasks v ≡ Some held → is_over held.body ≡ false → pending_of held.body ≡ acts.Fault kind line key → written (unwritten key) ≡ key

-- A fault that a task stands before, and no task below this number before one with a key before its own.
pub record IsLeastBelow (tasks : List Held) (to v : ℕ) (kind : FaultKind) (line : ℕ) (key : List ℕ) : Type 0 where
  pub fault : IsFaultAt tasks v kind line key
  pub least : (w : ℕ) (other : FaultKind) (row : ℕ) (place : List ℕ) → w < to → IsFaultAt tasks w other row place → IsBefore place key → ⊥

-- Which of the tasks below this number stands before the fault with the least key.
abbrev pub IsLeastTo : List Held → ℕ → Option ℕ → Type 0
IsLeastTo tasks to None = (v : ℕ) (kind : FaultKind) (line : ℕ) (key : List ℕ) → v < to → IsFaultAt tasks v kind line key → ⊥
IsLeastTo tasks to (Some v) = (kind : FaultKind) × (line : ℕ) × (key : List ℕ) × IsLeastBelow tasks to v kind line key
