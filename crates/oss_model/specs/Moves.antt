-- The moves of the machine: an act of a body, a cell that is given up, and a slot that is joined into its cell.
-- A fold under a strong reduction goes to a slot of the task, which is joined into the cell when the task has
-- ended and its turn has come (OmpSs-2, reduction clause). A cell is given up at the end of the task, or before
-- it by a release of the task itself (Perez, Beltran, Labarta and Ayguadé, IPDPS 2017). The clause wait keeps
-- the cells until all children are complete, but for those that were released.
-- Read against: reduction(+: s) in two tasks that add 1 and 2, and a later in(s) that finds 3, whichever ended
-- first.
use Rattle.std.specs.Prelude.{◌≡◌, ◌≢◌, ℕ, ◌+◌, ◌-◌, ◌%◌, ◌^◌, ◌==◌, Bool, true, false, if◌then◌else◌, List, [], ◌∷◌, ◌⊎◌, slice_index, slice_set, bit_and, bit_or, bit_xor}
use Rattle.oss_syntax.specs.declared.access.Mode.{Mode}
use Rattle.oss_syntax.specs.declared.access.Op.{Op}
use Rattle.oss_syntax.specs.declared.access.Op.TheVariants.{Add, And, Or, Xor}
use Rattle.oss_syntax.specs.declared.access.Mode.TheVariants.{Fold}
use Rattle.oss_model.specs.Context.{right_of}
use Rattle.oss_model.specs.Order.{IsSuffix, IsIn, IsEarlierKey}
use Rattle.oss_model.specs.Forest.{IsJoinSatisfied}
use Rattle.oss_model.specs.Rights.{Released, Holds}
use Rattle.oss_model.specs.Bodies.{Order, Program, Act, Start, Body, stack_from, stage_act, stage_created, stage_key, child_start, IsHalt}
use Rattle.oss_model.specs.Bodies.Act.{Load, Store, Folded, Created}
use Rattle.oss_model.specs.Machine.{Task, State, find, At, accesses, IsReady, Owes, IsComplete, IsWaitMet}

-- What a fold makes of a cell's value (C11 6.5.6, 6.5.10 to 6.5.12, for 64 bits without sign).
abbrev pub combine : Op → ℕ → ℕ → ℕ
combine Add a b = (a + b) % 2 ^ 64
combine And a b = bit_and a b
combine Or a b = bit_or a b
combine Xor a b = bit_xor a b

-- What a slot starts with.
abbrev pub neutral_value : Op → ℕ
neutral_value And = 2 ^ 64 - 1
neutral_value _ = 0

-- The memory after an act. A fold into a slot leaves it.
abbrev pub cells_after : {S : Type 0} → Act S → List ℕ → List ℕ
cells_after (Store c v) cells = slice_set cells c v
cells_after (Folded c op v false) cells = slice_set cells c (combine op (slice_index cells c) v)
cells_after _ cells = cells

-- What an act finds: a load finds the value of the cell.
abbrev pub found_by : {S : Type 0} → Act S → List ℕ → ℕ
found_by (Load c) cells = slice_index cells c
found_by _ cells = 0

-- A task's slot for a cell after one more act.
abbrev pub slot_more : {S : Type 0} → Act S → ℕ → Op → ℕ → ℕ
slot_more (Folded d op v true) c own held = if d == c then combine own held v else held
slot_more _ c own held = held

-- A task's slot for a cell, after these answers.
unfoldable pub slot_of : {S : Type 0} → Program S → Start S → ℕ → Op → List ℕ → ℕ
slot_of P b c op [] = neutral_value op
slot_of P b c op (v ∷ vs) = slot_more (stage_act P b vs) c op (slot_of P b c op vs)

-- The next act of a body.
abbrev pub act_now : {S : Type 0} → Program S → Body S → Act S
act_now P b = stage_act P b.start b.found

-- How many tasks the body's own task has created.
abbrev pub created_now : {S : Type 0} → Program S → Body S → ℕ
created_now P b = stage_created P b.start b.found

-- The body has ended.
abbrev pub is_ended : {S : Type 0} → Program S → Body S → Bool
is_ended P b = (stack_from P b.start b.found).ended

-- A task after an act with this answer.
abbrev pub after_answer : {S : Type 0} → ℕ → Task S → Task S
after_answer v t = record { body = record { start = t.body.start; found = v ∷ t.body.found }; given = t.given }

-- A task after it has given up the cell.
abbrev pub after_giving : {S : Type 0} → ℕ → Task S → Task S
after_giving c t = record { body = t.body; given = c ∷ t.given }

-- The task that a creation makes.
abbrev pub new_task : {S : Type 0} → Program S → Body S → Order S → Task S
new_task P b o = record { body = record { start = child_start (stack_from P b.start b.found).base o; found = [] }; given = [] }

-- Where the task has the clause wait, each child is complete.
abbrev pub WaitClause : {S : Type 0} → Program S → State S → List ℕ → Task S → Type 0
WaitClause P s p t = t.body.start.order.wait ≡ true → (k : ℕ) (u : Task _) → At s (k ∷ p) u → IsComplete P s (k ∷ p)

-- The next act of the task may happen. Before the first the task must be ready.
pub record CanStep {S : Type 0} (P : Program S) (s : State S) (p : List ℕ) (t : Task S) : Type 0 where
  pub at_ : At s p t
  pub goes : IsHalt (act_now P t.body) → ⊥
  pub ready : t.body.found ≡ [] → IsReady s p t.body.start.context
  pub waits : IsWaitMet P s p (created_now P t.body) (act_now P t.body)

-- The tasks after an act with this answer: the task has gone on, a creation has made its task, and all others
-- are as before.
pub record TaskStep {S : Type 0} (P : Program S) (s : State S) (p : List ℕ) (t : Task S) (v : ℕ) (n : State S) : Type 0 where
  pub own : At n p (after_answer v t)
  pub made : (o : Order S) → act_now P t.body ≡ Created o false → At n (created_now P t.body ∷ p) (new_task P t.body o)
  pub others : (q : List ℕ) → q ≢ p → ((o : Order S) → act_now P t.body ≡ Created o false → q ≢ created_now P t.body ∷ p) → find n.tasks q ≡ find s.tasks q

-- The state after an act.
pub record Stepped {S : Type 0} (P : Program S) (s : State S) (p : List ℕ) (t : Task S) (n : State S) : Type 0 where
  pub cells : n.cells ≡ cells_after (act_now P t.body) s.cells
  pub tasks : TaskStep P s p t (found_by (act_now P t.body) s.cells) n

-- Why a task may give up a cell: the task itself has released it, or the body has ended and the clause wait is
-- met.
abbrev pub IsGone : {S : Type 0} → Program S → State S → List ℕ → ℕ → Task S → Type 0
IsGone P s p c t = (right_of (stack_from P t.body.start t.body.found).base.context c ≡ Released) ⊎ ((is_ended P t.body ≡ true) × WaitClause P s p t)

-- The task may give up the cell. The cell of a strong reduction is given up by its join.
pub record CanLet {S : Type 0} (P : Program S) (s : State S) (p : List ℕ) (c : ℕ) (t : Task S) : Type 0 where
  pub at_ : At s p t
  pub not_main : p ≢ []
  pub mode : Mode
  pub strong : Bool
  pub right : right_of t.body.start.context c ≡ Holds mode strong
  pub no_fold : (op : Op) → right_of t.body.start.context c ≢ Holds (Fold op) true
  pub kept : IsIn c t.given → ⊥
  pub gone : IsGone P s p c t

-- The slot of the task may be joined into the cell.
pub record CanJoin {S : Type 0} (P : Program S) (s : State S) (p : List ℕ) (c : ℕ) (op : Op) (t : Task S) : Type 0 where
  pub at_ : At s p t
  pub right : right_of t.body.start.context c ≡ Holds (Fold op) true
  pub kept : IsIn c t.given → ⊥
  pub ended : is_ended P t.body ≡ true
  pub wait : WaitClause P s p t
  pub satisfied : IsJoinSatisfied (accesses s c) op p

-- The tasks after one has given up the cell.
pub record GaveUp {S : Type 0} (s : State S) (p : List ℕ) (c : ℕ) (t : Task S) (n : State S) : Type 0 where
  pub own : At n p (after_giving c t)
  pub others : (q : List ℕ) → q ≢ p → find n.tasks q ≡ find s.tasks q

-- The memory after a join.
abbrev pub joined_cells : {S : Type 0} → Program S → ℕ → Op → Task S → List ℕ → List ℕ
joined_cells P c op t cells = slice_set cells c (combine op (slice_index cells c) (slot_of P t.body.start c op t.body.found))

-- The state after a cell was given up.
pub record LetGo {S : Type 0} (s : State S) (p : List ℕ) (c : ℕ) (t : Task S) (n : State S) : Type 0 where
  pub cells : n.cells ≡ s.cells
  pub tasks : GaveUp s p c t n

-- The state after a join.
pub record Joined {S : Type 0} (P : Program S) (s : State S) (p : List ℕ) (c : ℕ) (op : Op) (t : Task S) (n : State S) : Type 0 where
  pub cells : n.cells ≡ joined_cells P c op t s.cells
  pub tasks : GaveUp s p c t n

-- The state after some move of another.
pub data Moved {S : Type 0} (P : Program S) (s n : State S) : Type 0 where
  steps : {p : List ℕ} {t : Task S} → CanStep P s p t → Stepped P s p t n → Moved P s n
  lets : {p : List ℕ} {c : ℕ} {t : Task S} → CanLet P s p c t → LetGo s p c t n → Moved P s n
  joins : {p : List ℕ} {c : ℕ} {op : Op} {t : Task S} → CanJoin P s p c op t → Joined P s p c op t n → Moved P s n

-- A task after more moves: the same task, which has gone on, and given up more.
pub record GoesOn {S : Type 0} (u v : Task S) : Type 0 where
  pub start : v.body.start ≡ u.body.start
  pub found : IsSuffix u.body.found v.body.found
  pub given : (c : ℕ) → IsIn c u.given → IsIn c v.given

-- The state at the beginning: main alone.
abbrev pub opening : {S : Type 0} → Start S → List ℕ → State S
opening main cells = record { cells = cells; tasks = record { body = record { start = main; found = [] }; given = [] } ∷ [] }

-- A state to which moves lead from the beginning. Every run of the machine goes through such states only.
pub data Reached {S : Type 0} (P : Program S) (main : Start S) (cells : List ℕ) : State S → Type 0 where
  opens : Reached P main cells (opening main cells)
  moves : {s n : State S} → Reached P main cells s → Moved P s n → Reached P main cells n

-- The body has ended, and each cell is given up. A task that is not closed is open.
pub record IsClosed {S : Type 0} (P : Program S) (p : List ℕ) (t : Task S) : Type 0 where
  pub ended : is_ended P t.body ≡ true
  pub given : (c : ℕ) → Owes p t.body.start.context c → IsIn c t.given

-- Some move may be made.
pub data SomeMove {S : Type 0} (P : Program S) (s : State S) : Type 0 where
  a_step : {p : List ℕ} {t : Task S} → CanStep P s p t → SomeMove P s
  a_let : {p : List ℕ} {c : ℕ} {t : Task S} → CanLet P s p c t → SomeMove P s
  a_join : {p : List ℕ} {c : ℕ} {op : Op} {t : Task S} → CanJoin P s p c op t → SomeMove P s

-- Where a body stands in point order: the key of its next act.
abbrev pub key_now : {S : Type 0} → Program S → Body S → List ℕ
key_now P b = stage_key P b.start b.found

-- Every task that stands before this one in point order is closed.
abbrev pub IsLeast : {S : Type 0} → Program S → State S → List ℕ → Task S → Type 0
IsLeast P s p t = (q : List ℕ) (u : Task _) → At s q u → IsEarlierKey (key_now P u.body) (key_now P t.body) → IsClosed P q u
