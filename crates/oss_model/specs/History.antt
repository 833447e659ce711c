-- What must have happened before, in a state of the machine.
use Rattle.std.specs.Prelude.{◌≡◌, ℕ, Bool, true, false, List, [], ◌∷◌, ◌⊎◌}
use Rattle.oss_syntax.specs.declared.access.Mode.{Mode}
use Rattle.oss_syntax.specs.declared.access.Op.{Op}
use Rattle.oss_syntax.specs.declared.access.Mode.TheVariants.{Fold}
use Rattle.oss_model.specs.Context.{right_of}
use Rattle.oss_model.specs.Forest.{IsJoinSatisfied}
use Rattle.oss_model.specs.Order.{IsIn, IsSuffix}
use Rattle.oss_model.specs.Rights.{Holds}
use Rattle.oss_model.specs.Bodies.{Order, Program, Start, Body, stack_from, stage_act, stage_created, child_start, IsHalt}
use Rattle.oss_model.specs.Bodies.Act.{Created}
use Rattle.oss_model.specs.Machine.{Task, State, At, accesses, IsReady, IsWaitMet}
use Rattle.oss_model.specs.Moves.{IsGone}

-- A done creation made the task: it has the number of the creation and starts as that says.
pub record MadeBy {S : Type 0} (P : Program S) (s : State S) (k : ℕ) (p : List ℕ) (t : Task S) : Type 0 where
  pub creator : Task S
  pub at_ : At s p creator
  pub past : List ℕ
  pub answer : ℕ
  pub order : Order S
  pub happened : IsSuffix (answer ∷ past) creator.body.found
  pub number : stage_created P creator.body.start past ≡ k
  pub act : stage_act P creator.body.start past ≡ Created order false
  pub start : t.body.start ≡ child_start (stack_from P creator.body.start past).base order

-- The tasks are main and those that done creations made, and no done act is a fault or stands after an end.
pub record IsMade {S : Type 0} (P : Program S) (main : Start S) (s : State S) : Type 0 where
  pub main_task : Task S
  pub main_at : At s [] main_task
  pub main_start : main_task.body.start ≡ main
  pub child : (k : ℕ) (p : List ℕ) (t : Task S) → At s (k ∷ p) t → MadeBy P s k p t
  pub made : (p : List ℕ) (u : Task S) (past : List ℕ) (answer : ℕ) (o : Order S) → At s p u → IsSuffix (answer ∷ past) u.body.found → stage_act P u.body.start past ≡ Created o false → (t : Task S) × At s (stage_created P u.body.start past ∷ p) t
  pub goes : (p : List ℕ) (u : Task S) (past : List ℕ) (answer : ℕ) → At s p u → IsSuffix (answer ∷ past) u.body.found → IsHalt (stage_act P u.body.start past) → ⊥

-- A cell that was given up was one of the task's, and there was a reason to give it up; that of a strong
-- reduction only at the end.
pub record IsRightlyGiven {S : Type 0} (P : Program S) (s : State S) (p : List ℕ) (t : Task S) (c : ℕ) : Type 0 where
  pub mode : Mode
  pub strong : Bool
  pub right : right_of t.body.start.context c ≡ Holds mode strong
  pub gone : IsGone P s p c t
  pub fold_over : (op : Op) → right_of t.body.start.context c ≡ Holds (Fold op) true → (stack_from P t.body.start t.body.found).ended ≡ true

-- A task that has begun is ready, a slot that was joined had its turn, what a done act waited for is met, and
-- each cell was rightly given up.
pub record IsStarted {S : Type 0} (P : Program S) (s : State S) : Type 0 where
  pub ready : (p : List ℕ) (t : Task S) (answer : ℕ) (past : List ℕ) → At s p t → IsSuffix (answer ∷ past) t.body.found → IsReady s p t.body.start.context
  pub joined : (p : List ℕ) (t : Task S) (c : ℕ) (op : Op) → At s p t → right_of t.body.start.context c ≡ Holds (Fold op) true → IsIn c t.given → IsJoinSatisfied (accesses s c) op p
  pub waited : (p : List ℕ) (t : Task S) (answer : ℕ) (past : List ℕ) → At s p t → IsSuffix (answer ∷ past) t.body.found → IsWaitMet P s p (stage_created P t.body.start past) (stage_act P t.body.start past)
  pub given : (p : List ℕ) (t : Task S) (c : ℕ) → At s p t → IsIn c t.given → IsRightlyGiven P s p t c

-- Two bodies are of one task, and one has gone at most further than the other, with the same answers.
pub record IsComparable {S : Type 0} (a b : Body S) : Type 0 where
  pub start : a.start ≡ b.start
  pub found : IsSuffix a.found b.found ⊎ IsSuffix b.found a.found
