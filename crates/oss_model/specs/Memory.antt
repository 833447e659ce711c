-- Done acts in point order, and the memory that they give.
-- Whatever the order of the moves was, a cell has the value that its done changes give when they are applied in
-- point order: the order of the sequential run. A store replaces a value (C11 6.5.16p3), and a fold combines
-- one with it.
use Rattle.std.specs.Prelude.{◌≡◌, ℕ, ◌<◌, Bool, true, false, List, [], ◌∷◌, length, ◌⊎◌, slice_index}
use Rattle.oss_syntax.specs.declared.access.Op.{Op}
use Rattle.oss_model.specs.Order.{IsIn, IsSuffix, IsEarlierKey}
use Rattle.oss_model.specs.Rights.{Touch}
use Rattle.oss_model.specs.Bodies.{Program, Act, Start, stage_act, stage_key, Touches}
use Rattle.oss_model.specs.Bodies.Act.{Store, Folded}
use Rattle.oss_model.specs.Machine.{Task, State, At}
use Rattle.oss_model.specs.Moves.{combine}

-- An act of a body at a stage, with its answer.
pub record Event (S : Type 0) : Type 0 where
  pub start : Start S
  pub past : List ℕ
  pub answer : ℕ

-- The key of the act.
abbrev pub key_at : {S : Type 0} → Program S → Event S → List ℕ
key_at P e = stage_key P e.start e.past

-- The first act is before the second in point order: by key, and acts of one key in the order of their body.
abbrev pub IsEarlierEvent : {S : Type 0} → Program S → Event S → Event S → Type 0
IsEarlierEvent P e g = IsEarlierKey (key_at P e) (key_at P g) ⊎ ((key_at P e ≡ key_at P g) × (length e.past < length g.past))

-- The act is done in the state.
pub record Happened {S : Type 0} (s : State S) (e : Event S) : Type 0 where
  pub task : Task S
  pub at_ : At s e.start.path task
  pub start : task.body.start ≡ e.start
  pub found : IsSuffix (e.answer ∷ e.past) task.body.found

-- A touch of a cell that is done. A fold into a slot is done once it is joined.
pub record DoneTouch {S : Type 0} (P : Program S) (s : State S) (c : ℕ) (e : Event S) (touch : Touch) (slot : Bool) : Type 0 where
  pub touches : Touches (stage_act P e.start e.past) c touch slot
  pub happened : Happened s e
  pub joined : slot ≡ true → IsIn c happened.task.given

-- The act changes the cell; the flag says that it goes to the slot.
pub data Changes {S : Type 0} : Act S → ℕ → Bool → Type 0 where
  store : {c v : ℕ} → Changes (Store c v) c false
  folded : {c : ℕ} {op : Op} {v : ℕ} {slot : Bool} → Changes (Folded c op v slot) c slot

-- A change of a cell that is done.
pub record DoneChange {S : Type 0} (P : Program S) (s : State S) (c : ℕ) (e : Event S) : Type 0 where
  pub slot : Bool
  pub changes : Changes (stage_act P e.start e.past) c slot
  pub happened : Happened s e
  pub joined : slot ≡ true → IsIn c happened.task.given

-- The value of a cell after an act that changes it.
abbrev pub value_after : {S : Type 0} → Act S → ℕ → ℕ
value_after (Store c v) w = v
value_after (Folded c op v slot) w = combine op w v
value_after _ w = w

-- The value of a cell after these acts.
abbrev pub replay : {S : Type 0} → Program S → List (Event S) → ℕ → ℕ
replay P [] w = w
replay P (e ∷ es) w = replay P es (value_after (stage_act P e.start e.past) w)

-- The acts stand in point order.
abbrev pub IsSorted : {S : Type 0} → Program S → List (Event S) → Type 0
IsSorted P [] = Unit {0}
IsSorted P (e ∷ es) = ((g : Event _) → IsIn g es → IsEarlierEvent P e g) × IsSorted P es

-- The cell has the value that exactly its done changes give, in point order, from what it had at first.
pub record IsValue {S : Type 0} (P : Program S) (s : State S) (first : List ℕ) (c : ℕ) : Type 0 where
  pub list : List (Event S)
  pub sorted : IsSorted P list
  pub only : (e : Event S) → IsIn e list → DoneChange P s c e
  pub all : (e : Event S) → DoneChange P s c e → IsIn e list
  pub value : slice_index s.cells c ≡ replay P list (slice_index first c)
