-- What a move changes of what the core keeps.
-- Read against: main stands before the creation of a task with out(x), and has found nothing; the core keeps its body as number 0, and no entry. The step is
-- enabled, since main may always begin. Behind it the body of main has found one answer, 0; the body of the task stands behind it as number 1, at its start;
-- and there is one entry, of task 1 below 0, with out(x). If main then loads x and finds 5, its body has found 5 and 0, and all else is as before.
use Rattle.std.specs.Prelude.{◌≡◌, ℕ, ◌+◌, ◌<◌, ◌⊎◌, Bool, true, false, List, [], ◌∷◌, ◌++◌, length, slice_get, Some, None}
use Rattle.oss_model.specs.Bodies.{Order, Program, Act, Body, IsHalt}
use Rattle.oss_model.specs.Bodies.Act.{Load, Created}
use Rattle.oss_model.specs.Machine.{Task, State}
use Rattle.oss_model.specs.Moves.{act_now, CanStep, Stepped, new_task}
use Rattle.oss_deps.specs.declared.opened.Open.{Open}
use Rattle.oss_model.specs.Order.{IsIn}
use Rattle.oss_model.specs.Moves.{created_now}
use Rattle.oss_deps.specs.Opens.{IsMet}
use Rattle.oss_core.specs.Below.{MayOpen}
use Rattle.oss_core.specs.Standing.{AreRightsOf, IsNumbered, IsLinked, AreTasks, StandsFor}

-- The answer to an act, where a load found this value.
abbrev pub answer_to : {S : Type 0} → Act S → ℕ → ℕ
answer_to (Load c) v = v
answer_to _ v = 0

-- A body after its next act.
abbrev pub body_after : {S : Type 0} → Program S → ℕ → Body S → Body S
body_after P v b = record { start = b.start; found = answer_to (act_now P b) v ∷ b.found }

-- The second body is that of the task which the next act of the first creates.
abbrev pub IsChildOf : {S : Type 0} → Program S → Body S → Body S → Type 0
IsChildOf P b x = (o : Order _) → act_now P b ≡ Created o false → x ≡ (new_task P b o).body

-- Every body is one of the code.
abbrev pub AreOf : {B : Type 0} → (B → Type 0) → List B → Type 0
AreOf of bodies = (v : ℕ) (b : _) → slice_get bodies v ≡ Some b → of b

-- The body at the place is one of the code, and does not stand before a fault or its end.
abbrev pub IsReadyToGo : {S B : Type 0} → Program S → (B → Body S) → (B → Type 0) → List B → ℕ → Type 0
IsReadyToGo P body of bodies v = (b : _) → slice_get bodies v ≡ Some b → of b × (IsHalt (act_now P (body b)) → ⊥)

-- The body at the place has gone on by its next act, and all others are as before.
pub record IsAdvanced {S B : Type 0} (P : Program S) (body : B → Body S) (of : B → Type 0) (loaded : ℕ) (old new : List B) (v : ℕ) : Type 0 where
  pub before : B
  pub after : B
  pub was : slice_get old v ≡ Some before
  pub is : slice_get new v ≡ Some after
  pub of_code : of after
  pub body_is : body after ≡ body_after P loaded (body before)
  pub others : (w : ℕ) → (w ≡ v → ⊥) → slice_get new w ≡ slice_get old w
  pub size : length new ≡ length old

-- The step of this task was made: it could be, and what the core keeps stands for the state after it.
pub record StepMade {S B : Type 0} (P : Program S) (body : B → Body S) (old new : List B) (given : ℕ → ℕ → Bool) (cells : List ℕ) (v : ℕ) (s : State S) : Type 0 where
  pub path : List ℕ
  pub task : Task S
  pub state : State S
  pub has : IsNumbered body old v path
  pub can : CanStep P s path task
  pub stepped : Stepped P s path task state
  pub stands : StandsFor body new given cells state

-- The next act of the task with this number may happen, as far as the core can tell.
pub record IsEnabled {S B : Type 0} (P : Program S) (body : B → Body S) (bodies : List B) (opens : List Open) (given : ℕ → ℕ → Bool) (v : ℕ) : Type 0 where
  pub one : B
  pub is : slice_get bodies v ≡ Some one
  pub goes : IsHalt (act_now P (body one)) → ⊥
  pub met : (body one).found ≡ [] → (v ≡ 0) ⊎ IsMet opens given v

-- One body of the list has gone on, and one more stands behind the list.
pub record Grown {B : Type 0} (xs ys : List B) (v : ℕ) (b : B) (m : ℕ) (child : B) : Type 0 where
  pub now : slice_get ys v ≡ Some b
  pub new : slice_get ys m ≡ Some child
  pub others : (w : ℕ) → (w ≡ v → ⊥) → (w ≡ m → ⊥) → slice_get ys w ≡ slice_get xs w
  pub fresh : slice_get xs m ≡ None

-- The body at the place has created a task, which has the next number and an entry.
pub record IsCreated {S B : Type 0} (P : Program S) (body : B → Body S) (of : B → Type 0) (old new : List B) (opens more : List Open) (v : ℕ) : Type 0 where
  pub before : B
  pub after : B
  pub child : B
  pub was : slice_get old v ≡ Some before
  pub grown : Grown old new v after (length old) child
  pub size : length new ≡ length old + 1
  pub of_after : of after
  pub of_child : of child
  pub body_is : body after ≡ body_after P 0 (body before)
  pub child_is : IsChildOf P (body before) (body child)
  pub entry : Open
  pub task_is : entry.task ≡ length old
  pub parent_is : entry.parent ≡ v
  pub rights : AreRightsOf entry.accesses (body child).start.context
  pub may : MayOpen opens entry
  pub opens_are : more ≡ opens ++ entry ∷ []

-- What the core keeps of its tasks: bodies and entries are of the same tasks; each child's number is below that of the tasks that its
-- creator has created; and only cells of its tasks are given up.
pub record AreSound {S B : Type 0} (P : Program S) (body : B → Body S) (of : B → Type 0) (bodies : List B) (opens : List Open) (given : ℕ → ℕ → Bool) : Type 0 where
  pub tasks : AreTasks body bodies opens
  pub of_code : AreOf of bodies
  pub below : (o : Open) → IsIn o opens → (l : IsLinked body bodies o) → l.child < created_now P (body l.creator)
  pub within : (w k : ℕ) → given w k ≡ true → w < length bodies
