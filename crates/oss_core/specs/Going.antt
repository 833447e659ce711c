-- How the body of a task goes on, and what the calls that make a step ask and leave.
-- Read against: a task that stands before the store of 5 in x is there, has not ended, and stands before no fault; behind the store its body has one answer
-- more, and it owes what it owed.
use Rattle.std.specs.Prelude.{◌≡◌, ℕ, false, true, List, Some, slice_get}
use Rattle.oss_model.specs.Order.{written}
use Rattle.oss_code.specs.declared.code.CodeParts.{CodeParts}
use Rattle.oss_body.specs.declared.act.Act.{Act}
use Rattle.oss_body.specs.declared.act.Act.TheVariants as acts
use Rattle.oss_body.specs.Acts.{creates, goes_on}
use Rattle.oss_body.specs.Places.{unwritten}
use Rattle.oss_body.specs.Relation.{is_over, pending_of}
use Rattle.oss_kept_tasks.specs.declared.held.Held.{Held}
use Rattle.oss_core.specs.Changes.{Creates, GoesOn, IsChanged, Steps}
use Rattle.oss_core.specs.Kept.{Kept}

-- The task is there, has not ended, and stands before no fault.
pub record StandsBefore (tasks : List Held) (v : ℕ) : Type 0 where
  pub held : Held
  pub is : slice_get tasks v ≡ Some held
  pub running : is_over held.body ≡ false
  pub goes : goes_on (pending_of held.body) ≡ true

-- It stands before an act that creates no task of the machine.
pub record StandsBeforeStep (tasks : List Held) (v : ℕ) : Type 0 where
  pub before : StandsBefore tasks v
  pub none : creates (pending_of before.held.body) ≡ false

-- A task that is kept so stands before the creation of a task of the machine.
pub record IsBeforeCreation (held : Held) : Type 0 where
  pub running : is_over held.body ≡ false
  pub creates_is : creates (pending_of held.body) ≡ true

-- It stands before the creation of a task of the machine.
pub record StandsBeforeCreation (tasks : List Held) (v : ℕ) : Type 0 where
  pub before : StandsBefore tasks v
  pub creates_is : creates (pending_of before.held.body) ≡ true

-- The body of the task has gone on by the act that stood next, and no other has changed.
pub record HasGoneOn (code : CodeParts) (v loaded : ℕ) (old new : List Held) : Type 0 where
  pub before : Held
  pub after : Held
  pub changed_is : IsChanged old new v before after
  pub goes : GoesOn code (pending_of before.body) loaded before after

-- The key of a print is a point: it begins with main's 0.
abbrev pub IsKeyed : Act → Type 0
IsKeyed act = (key text : List ℕ) → act ≡ acts.Print key text → written (unwritten key) ≡ key

-- The act that stood next was made, and created no task.
abbrev pub HasStepped : CodeParts → ℕ → Kept → Kept → Type 0
HasStepped code v old new = (act : Act) × Steps code v act old new

-- The act that stood next was made, and created a task.
abbrev pub HasCreated : CodeParts → ℕ → Kept → Kept → Type 0
HasCreated code v old new = (act : Act) × Creates code v act old new
