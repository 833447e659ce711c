-- Which moves may be made, what a move changes of what a core keeps, and which move of the definitions it is.
-- Read against: the store of 5 in x by the task 1 changes the body of that task, which has one answer more, and the cell; a print stands behind all that
-- was printed; the end of a task is known to the tree; a creation puts a body behind the others, an entry behind the opens, and a task into the tree; and a let of
-- x by task 1 clears what it owes of x, so that it has given up all its cells, and the dependency system is told.
use Rattle.std.specs.Prelude.{◌≡◌, ℕ, suc, ◌==◌, ◌&&◌, ◌||◌, ◌↔◌, Bool, true, false, if◌then◌else◌, List, [], ◌∷◌, ◌++◌, length, Option, Some, None, slice_get, slice_set, slice_index}
use Rattle.oss_syntax.specs.declared.access.Access.{Access}
use Rattle.oss_syntax.specs.declared.access.Op.{Op}
use Rattle.oss_syntax.specs.declared.access.Mode.TheVariants.{Fold}
use Rattle.oss_judge.specs.Joined.{IsRising, held_right}
use Rattle.oss_model.specs.Order.{written}
use Rattle.oss_model.specs.Rights.{Holds, right_from}
use Rattle.oss_model.specs.Context.{right_of}
use Rattle.oss_model.specs.Bodies.{Order, Program, Start, Created, child_start, stack_from, stage_act}
use Rattle.oss_model.specs.Machine.{State, Task}
use Rattle.oss_model.specs.Moves.{CanStep, Stepped, CanLet, LetGo, CanJoin, Joined, cells_after, combine, slot_of}
use Rattle.oss_model.specs.declared.moving.Move.{Move}
use Rattle.oss_model.specs.declared.moving.Move.TheVariants as moves
use Rattle.oss_ranges.specs.Cells.{Assigns, value_at}
use Rattle.oss_code.specs.declared.code.CodeParts.{CodeParts}
use Rattle.oss_machine.specs.Frames.{CodeScript}
use Rattle.oss_machine.specs.Machines.{asks}
use Rattle.oss_body.specs.declared.act.Act.{Act}
use Rattle.oss_body.specs.declared.act.Act.TheVariants as acts
use Rattle.oss_body.specs.Acts.{act_seen, answer_to, creates}
use Rattle.oss_body.specs.Places.{unwritten}
use Rattle.oss_body.specs.Relation.{IsBody, has_wait, is_over, pending_of}
use Rattle.oss_tree.specs.declared.output.Print.{Print}
use Rattle.oss_tree.specs.declared.task.Task.{Task as TreeTask}
use Rattle.oss_tree.specs.Tasks.{HasPoint, changed, ended_task, given_task, grown}
use Rattle.oss_deps.specs.Opens.{access_at}
use Rattle.oss_deps.specs.Seen.{IsSame, Opens}
use Rattle.oss_kept_tasks.specs.declared.held.Held.{Held}
use Rattle.oss_kept_tasks.specs.declared.held.Owed.{Owed}
use Rattle.oss_enabled_moves.specs.Enabled.{MayJoin, MayLet, MayStep}
use Rattle.oss_core.specs.Kept.{IsCore, Kept, owed_by}

-- One task is kept otherwise, and no other.
pub record IsChanged (old new : List Held) (v : ℕ) (before after : Held) : Type 0 where
  pub was : slice_get old v ≡ Some before
  pub is : slice_get new v ≡ Some after
  pub others : (w : ℕ) → (w ≡ v → ⊥) → slice_get new w ≡ slice_get old w
  pub size : length new ≡ length old

-- What an act finds: a load finds the number in its cell.
abbrev pub found_in : Act → List ℕ → ℕ
found_in (acts.Load c) cells = slice_index cells c
found_in _ cells = 0

-- The body has gone on by the act that stood next, which found this number; of the cells that the task owes nothing changes.
pub record GoesOn (code : CodeParts) (act : Act) (loaded : ℕ) (before after : Held) : Type 0 where
  pub act_is : pending_of before.body ≡ act
  pub body : (start : Start CodeScript) (found : List ℕ) → IsBody code start found before.body → IsBody code start (answer_to (act_seen act) loaded ∷ found) after.body
  pub owed : after.owed.pieces ≡ before.owed.pieces

-- What was printed after an act.
abbrev pub prints_after : Act → List Print → List Print
prints_after (acts.Print key text) prints = prints ++ record { at = key; text = text } ∷ []
prints_after _ prints = prints

-- The tasks of the tree after an act of this one: its end is noted.
abbrev pub noted : ℕ → Bool → List TreeTask → List TreeTask
noted v over tasks = if over then changed tasks v ended_task else tasks

-- An act that creates no task is made.
pub record Steps (code : CodeParts) (v : ℕ) (act : Act) (old new : Kept) : Type 0 where
  pub none : creates act ≡ false
  pub before : Held
  pub after : Held
  pub changed_is : IsChanged old.tasks new.tasks v before after
  pub goes : GoesOn code act (found_in act old.cells) before after
  pub cells : new.cells ≡ cells_after (act_seen act) old.cells
  pub tasks : new.tree.tasks ≡ noted v (is_over after.body) old.tree.tasks
  pub prints : new.tree.prints ≡ prints_after act old.tree.prints
  -- the key of a print is a point: it begins with main's 0
  pub key_is : (key text : List ℕ) → act ≡ acts.Print key text → written (unwritten key) ≡ key
  pub seen : IsSame old.seen new.seen

-- How a cell is to be given up by the task with these accesses.
abbrev pub owed_by_access : Option Access → Option Owed
owed_by_access None = None
owed_by_access (Some a) = owed_by (Holds a.mode a.strong)

-- The kept task is that which the act of the first creates, and has these accesses.
pub record IsCreated (code : CodeParts) (before child : Held) (accesses : List Access) : Type 0 where
  pub body : (start : Start CodeScript) (found : List ℕ) (order : Order CodeScript) → IsBody code start found before.body → stage_act (asks code) start found ≡ Created order false
      → IsBody code (child_start (stack_from (asks code) start found).base order) [] child.body
  pub rights : (start : Start CodeScript) (found : List ℕ) → IsBody code start found child.body → (c : ℕ) → right_from false accesses c ≡ held_right (right_of start.context c)
  pub rising : IsRising accesses
  pub owed : (c : ℕ) → value_at child.owed.pieces c ≡ owed_by_access (access_at accesses c)

-- One task is kept otherwise, and one more stands behind all others.
pub record IsGrown (old new : List Held) (v : ℕ) (before after child : Held) : Type 0 where
  pub was : slice_get old v ≡ Some before
  pub is : slice_get new v ≡ Some after
  pub added : slice_get new (length old) ≡ Some child
  pub others : (w : ℕ) → (w ≡ v → ⊥) → (w ≡ length old → ⊥) → slice_get new w ≡ slice_get old w
  pub size : length new ≡ suc (length old)

-- A task without cells has given up all of them as soon as it is there.
abbrev pub noted_new : List Access → ℕ → List TreeTask → List TreeTask
noted_new [] m tasks = changed tasks m given_task
noted_new (a ∷ more) m tasks = tasks

-- The task creates another.
pub record Creates (code : CodeParts) (v : ℕ) (act : Act) (old new : Kept) : Type 0 where
  pub creates_is : creates act ≡ true
  pub before : Held
  pub after : Held
  pub child : Held
  pub accesses : List Access
  pub grown_is : IsGrown old.tasks new.tasks v before after child
  pub goes : GoesOn code act 0 before after
  pub created : IsCreated code before child accesses
  pub cells : new.cells ≡ old.cells
  pub tasks : new.tree.tasks ≡ noted_new accesses (length old.tree.tasks) (grown old.tree.tasks v (has_wait child.body))
  pub prints : new.tree.prints ≡ old.tree.prints
  pub seen : Opens (record { task = length old.tasks; parent = v; accesses = accesses }) old.seen new.seen

-- The tasks of the tree after this one has given up a cell: it is noted where that was its last.
abbrev pub noted_given : ℕ → Bool → List TreeTask → List TreeTask
noted_given v last tasks = if last then changed tasks v given_task else tasks

-- The task has given up the cell.
pub record GivesUp (v c : ℕ) (old new : Kept) : Type 0 where
  pub before : Held
  pub after : Held
  pub changed_is : IsChanged old.tasks new.tasks v before after
  pub body : after.body ≡ before.body
  pub owed : Assigns c (suc c) None before.owed.pieces after.owed.pieces
  pub last : Bool
  pub last_is : (last ≡ true) ↔ ((k : ℕ) → value_at after.owed.pieces k ≡ None)
  pub tasks : new.tree.tasks ≡ noted_given v last old.tree.tasks
  pub prints : new.tree.prints ≡ old.tree.prints
  pub opens : new.seen.opens ≡ old.seen.opens
  pub given : (t k : ℕ) → new.seen.given t k ≡ (old.seen.given t k || ((v == t) && (c == k)))

-- A let is made.
pub record Lets (v c : ℕ) (old new : Kept) : Type 0 where
  pub gives : GivesUp v c old new
  pub cells : new.cells ≡ old.cells

-- A slot is joined into its cell.
pub record Joins (code : CodeParts) (v c : ℕ) (op : Op) (old new : Kept) : Type 0 where
  pub gives : GivesUp v c old new
  pub slot : ℕ
  pub slot_is : (start : Start CodeScript) (found : List ℕ) → IsBody code start found gives.before.body → right_of start.context c ≡ Holds (Fold op) true → slot ≡ slot_of (asks code) start c op found
  pub cells : new.cells ≡ slice_set old.cells c (combine op (slice_index old.cells c) slot)

-- The move of the definitions from one state to another that a move of tasks by their numbers is: the task has the path that is written as its point.
abbrev pub IsMove : Program CodeScript → List TreeTask → Move → State CodeScript → State CodeScript → Type 0
IsMove P tasks (moves.Step task) s n = (path : List ℕ) × (one : Task CodeScript) × HasPoint tasks task.0 (written path) × CanStep P s path one × Stepped P s path one n
IsMove P tasks (moves.Let task cell) s n = (path : List ℕ) × (one : Task CodeScript) × HasPoint tasks task.0 (written path) × CanLet P s path cell one × LetGo s path cell one n
IsMove P tasks (moves.Join task cell) s n =
    (path : List ℕ) × (one : Task CodeScript) × (op : Op) × HasPoint tasks task.0 (written path) × CanJoin P s path cell op one × Joined P s path cell op one n

-- The move may be made, told of what is kept alone.
abbrev pub MayMove : Kept → Move → Type 0
MayMove k (moves.Step task) = MayStep k.tasks k.tree.tasks k.seen task.0
MayMove k (moves.Let task cell) = MayLet k.tasks k.tree.tasks task.0 cell
MayMove k (moves.Join task cell) = (op : Op) × MayJoin k.tasks k.tree.tasks k.seen task.0 cell op

-- The move is made: it is one of the definitions from each state for which the core stood before, to one for which it stands after.
abbrev pub IsMade : CodeParts → Kept → Kept → Move → Type 0
IsMade code old new m = (main : Start CodeScript) (first : List ℕ) (s : State CodeScript) → IsCore code main first old s → (n : State CodeScript) × IsMove (asks code) old.tree.tasks m s n × IsCore code main first new n
