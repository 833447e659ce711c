-- What a tree tells of a state of the machine whose tasks and prints it keeps.
-- The tree knows of a task what it was told: its creator, whether its body has ended and whether it has given up its cells. From
-- that follow which tasks of the state are complete, which open one stands first in point order, and what the output is.
-- Read against: main has created a task with out(x), which has printed and ended, and has not given up x. The tree has tasks
-- with the points 0 and 0.0, the second ended, and the print at 0.0.0; neither task is complete, and the second is the least open.
use Rattle.std.specs.Prelude.{◌≡◌, ◌≤◌, ◌<◌, ◌↔◌, ℕ, true, List, ◌∷◌, ◌++◌, length, map, Some, None, slice_get}
use Rattle.oss_model.specs.Order.{IsIn, written}
use Rattle.oss_model.specs.Bodies.{Program, stage_act}
use Rattle.oss_model.specs.Machine as machine
use Rattle.oss_model.specs.Machine.{State, At, Owes}
use Rattle.oss_model.specs.Moves as moves
use Rattle.oss_model.specs.Moves.{is_ended, key_now, IsLeast}
use Rattle.oss_model.specs.Memory.{Event, key_at}
use Rattle.oss_model.specs.Answers as answers
use Rattle.oss_model.specs.Answers.{DonePrint, IsFinished, text_of}
use Rattle.oss_tree.specs.declared.output.Print.{Print}
use Rattle.oss_tree.specs.declared.task.Task.{Task}
use Rattle.oss_tree.specs.Tasks.{AreComplete, HasPoint, IsComplete, IsLeastOpen, IsTree}
use Rattle.oss_tree.specs.Output.{IsOutput, up_to}

-- The task of the tree is the one of the state with this path: it has its point, and the same is known of both.
pub record IsTaskOf {S : Type 0} (P : Program S) (s : State S) (one : Task) (path : List ℕ) (task : machine.Task S) : Type 0 where
  pub at_ : At s path task
  pub point : one.point ≡ written path
  pub ended : (one.ended ≡ true) ↔ (is_ended P task.body ≡ true)
  pub gave_all : (one.gave_all ≡ true) ↔ ((c : ℕ) → Owes path task.body.start.context c → IsIn c task.given)

-- The tasks of the tree are those of the state.
pub record KeepsTasks {S : Type 0} (P : Program S) (s : State S) (tasks : List Task) : Type 0 where
  pub tree : IsTree tasks
  pub there : (t : ℕ) (one : Task) → slice_get tasks t ≡ Some one → (path : List ℕ) × (task : machine.Task S) × IsTaskOf P s one path task
  pub back : (path : List ℕ) (task : machine.Task S) → At s path task → (t : ℕ) × HasPoint tasks t (written path)

-- A task of the tree is complete just where the task of the state is.
abbrev pub CompleteIsComplete : Type 0 → Type 0
CompleteIsComplete S = (P : Program S) (s : State S) (tasks : List Task) (t : ℕ) (one : Task) (path : List ℕ) (task : machine.Task S)
    → KeepsTasks P s tasks → slice_get tasks t ≡ Some one → IsTaskOf P s one path task → IsComplete tasks t ↔ machine.IsComplete P s path

-- All tasks of the tree are complete just where the state is finished.
abbrev pub CompleteIsFinished : Type 0 → Type 0
CompleteIsFinished S = (P : Program S) (s : State S) (tasks : List Task) → KeepsTasks P s tasks → AreComplete tasks ↔ IsFinished P s

-- Where the body of a task stands: behind all tasks that the tree has of it. A final task includes those that it creates, so the
-- tree has none of it, and the key of its next act may go further down.
pub record StandsBehind (one : Task) (key : List ℕ) : Type 0 where
  pub number : ℕ
  pub more : List ℕ
  pub is : written key ≡ one.point ++ number ∷ more
  pub behind : length one.children ≤ number

-- The least open task of the tree, as one of the state: it is open, and each task of the state before it in point order is closed.
pub record IsLeastOfState {S : Type 0} (P : Program S) (s : State S) (one : Task) : Type 0 where
  pub path : List ℕ
  pub task : machine.Task S
  pub is : IsTaskOf P s one path task
  pub open_ : moves.IsClosed P path task → ⊥
  pub least : IsLeast P s path task

-- The least open task of the tree is the least of the state, where each body stands behind the tasks that it has created.
abbrev pub LeastIsLeast : Type 0 → Type 0
LeastIsLeast S = (P : Program S) (s : State S) (tasks : List Task) (t : ℕ) (one : Task)
    → KeepsTasks P s tasks → ((u : ℕ) (other : Task) (path : List ℕ) (task : machine.Task S) → slice_get tasks u ≡ Some other → IsTaskOf P s other path task → StandsBehind other (key_now P task.body))
    → IsLeastOpen tasks t → slice_get tasks t ≡ Some one → IsLeastOfState P s one

-- A print as an act of a body makes it: at its key, with its text.
abbrev pub print_of : {S : Type 0} → Program S → Event S → Print
print_of P e = record { at = written (key_at P e); text = text_of (stage_act P e.start e.past) }

-- The first stands in the list before the second.
pub data Precedes {A : Type 0} (x y : A) : List A → Type 0 where
  first : {xs : List A} → IsIn y xs → Precedes x y (x ∷ xs)
  later : {z : A} {xs : List A} → Precedes x y xs → Precedes x y (z ∷ xs)

-- The prints are those done in the state, in an order in which each body has made its own.
pub record KeepsPrints {S : Type 0} (P : Program S) (s : State S) (done : List (Event S)) (prints : List Print) : Type 0 where
  pub prints_are : prints ≡ map (print_of P) done
  pub only : (e : Event S) → IsIn e done → DonePrint P s None e
  pub all : (e : Event S) → DonePrint P s None e → IsIn e done
  pub in_turn : (e g : Event S) → Precedes e g done → key_at P e ≡ key_at P g → length e.past < length g.past

-- The output of the tree is that of the state.
abbrev pub OutputIsOutput : Type 0 → Type 0
OutputIsOutput S = (P : Program S) (s : State S) (done : List (Event S)) (prints : List Print) (text : List ℕ) → KeepsPrints P s done prints → IsOutput prints text → answers.IsOutput P s None text

-- The output of the tree up to a point is that of the state up to the key that is written so.
abbrev pub OutputBeforeIsOutput : Type 0 → Type 0
OutputBeforeIsOutput S = (P : Program S) (s : State S) (done : List (Event S)) (prints : List Print) (last text : List ℕ)
    → KeepsPrints P s done prints → IsOutput (up_to (written last) prints) text → answers.IsOutput P s (Some last) text
