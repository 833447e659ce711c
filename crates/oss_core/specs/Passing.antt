-- A pass over the tasks that a core keeps: run by run of cells that are owed in one way.
-- Read against: task 1 has out(a[0;4]) and has released a[2;2], and task 2 has in(b) and has ended. A pass over main, 1 and 2 comes to the cells 0 and 1 of task 1,
-- which stay, then to 2 and 3, which it gives up, and then to b of task 2: it tells of the two runs 2..4 of task 1 and b of task 2.
use Rattle.std.specs.Prelude.{◌≡◌, ℕ, zero, suc, ◌+◌, ◌≤◌, ◌<◌, ◌↔◌, ◌⊎◌, ◌==◌, ◌&&◌, ◌||◌, Bool, true, false, List, [], ◌∷◌, length, Some, None, slice_get}
use Rattle.oss_syntax.specs.declared.access.Op.{Op}
use Rattle.oss_model.specs.Order.{written}
use Rattle.oss_model.specs.Bodies.{Start}
use Rattle.oss_model.specs.Machine.{State}
use Rattle.oss_model.specs.declared.task_no.TaskNo.{TaskNo}
use Rattle.oss_wave_laws.specs.Passes.{GivenUp, IsPass}
use Rattle.oss_wave_laws.specs.Rounds.{Span, spans}
use Rattle.oss_ranges.specs.Cells.{Assigns, is_within, value_at}
use Rattle.oss_code.specs.declared.code.CodeParts.{CodeParts}
use Rattle.oss_machine.specs.Frames.{CodeScript}
use Rattle.oss_machine.specs.Machines.{asks}
use Rattle.oss_tree.specs.declared.task.Task.{Task as TreeTask}
use Rattle.oss_tree.specs.Tasks.{HasPoint, given_task}
use Rattle.oss_kept_tasks.specs.declared.held.Held.{Held}
use Rattle.oss_kept_tasks.specs.declared.held.Owed.TheVariants as owed
use Rattle.oss_enabled_moves.specs.Enabled.{MayJoin, MayLet}
use Rattle.oss_core.specs.declared.passing.Passed.{Passed}
use Rattle.oss_core.specs.Changes.{IsChanged, Joins, noted_given}
use Rattle.oss_core.specs.Kept.{IsCore, Kept}

-- What was passed is this span of the definitions: the cells of one task, by its number and by its path.
pub record Tells (tasks : List TreeTask) (one : Passed) (span : Span) : Type 0 where
  pub point : HasPoint tasks one.task.0 (written span.path)
  pub first : one.range.lo ≡ span.first
  pub last : one.range.hi ≡ span.first + span.count
  pub joined : one.joined ≡ span.joined

-- One by one.
abbrev pub TellsOf : List TreeTask → List Passed → List Span → Type 0
TellsOf tasks [] [] = Unit {0}
TellsOf tasks (one ∷ more) (span ∷ rest) = Tells tasks one span × TellsOf tasks more rest
TellsOf tasks _ _ = ⊥

-- Each task of the tree is as it was, but that it may have given up all its cells.
pub record HaveGiven (old new : List TreeTask) : Type 0 where
  pub size : length new ≡ length old
  pub each : (v : ℕ) (one : TreeTask) → slice_get old v ≡ Some one → (slice_get new v ≡ Some one) ⊎ (slice_get new v ≡ Some (given_task one))

-- A pass was made from each state for which the core stood before, to one for which it stands after; and these are the spans that it gave up.
abbrev pub HasPassed : CodeParts → Kept → Kept → List Passed → Type 0
HasPassed code old new passed = (main : Start CodeScript) (first : List ℕ) (s : State CodeScript) → IsCore code main first old s
    → (n : State CodeScript) × (done : List GivenUp) × IsPass (asks code) s done n × TellsOf old.tree.tasks passed (spans done) × IsCore code main first new n

-- The second run goes on where the first ends: cells of one task, given up in one way.
pub record Continues (last one : Passed) : Type 0 where
  pub task : last.task.0 ≡ one.task.0
  pub joined : last.joined ≡ one.joined
  pub touches : last.range.hi ≡ one.range.lo

-- The run has the cells of both.
pub record AreBoth (last one both : Passed) : Type 0 where
  pub task : both.task.0 ≡ last.task.0
  pub joined : both.joined ≡ last.joined
  pub lo : both.range.lo ≡ last.range.lo
  pub hi : both.range.hi ≡ one.range.hi

-- One run more, behind the others: where it goes on with the last of them, they are one.
abbrev pub IsAdded : Passed → List Passed → List Passed → Type 0
IsAdded one [] after = after ≡ one ∷ []
IsAdded one (last ∷ []) after = (Continues last one × ((both : Passed) × AreBoth last one both × (after ≡ both ∷ []))) ⊎ ((Continues last one → ⊥) × (after ≡ last ∷ one ∷ []))
IsAdded one (a ∷ b ∷ rest) after = (more : List Passed) × IsAdded one (b ∷ rest) more × (after ≡ a ∷ more)

-- The task with this number has passed these cells in this way.
pub record IsOf (v lo hi : ℕ) (joined : Bool) (one : Passed) : Type 0 where
  pub task : one.task.0 ≡ v
  pub lo_is : one.range.lo ≡ lo
  pub hi_is : one.range.hi ≡ hi
  pub joined_is : one.joined ≡ joined

-- And it is told behind the others.
abbrev pub IsToldOf : ℕ → ℕ → ℕ → Bool → List Passed → List Passed → Type 0
IsToldOf v lo hi joined before after = (one : Passed) × IsOf v lo hi joined one × IsAdded one before after

-- The task is there, and owes each of the cells by a let.
pub record OwesRange (tasks : List Held) (v lo hi : ℕ) : Type 0 where
  pub held : Held
  pub is : slice_get tasks v ≡ Some held
  pub owes : (c : ℕ) → lo ≤ c → c < hi → value_at held.owed.pieces c ≡ Some owed.Let

-- The task owes the cells no more, and no other task has changed; whether it owes none now.
pub record HasClearedRange (v lo hi : ℕ) (last : Bool) (old new : List Held) : Type 0 where
  pub before : Held
  pub after : Held
  pub changed_is : IsChanged old new v before after
  pub body : after.body ≡ before.body
  pub owed : Assigns lo hi None before.owed.pieces after.owed.pieces
  pub last_is : (last ≡ true) ↔ ((k : ℕ) → value_at after.owed.pieces k ≡ None)

-- The task has given up the cells of a range by lets.
pub record LetsRange (v lo hi : ℕ) (old new : Kept) : Type 0 where
  pub last : Bool
  pub cleared : HasClearedRange v lo hi last old.tasks new.tasks
  pub tasks : new.tree.tasks ≡ noted_given v last old.tree.tasks
  pub prints : new.tree.prints ≡ old.tree.prints
  pub opens : new.seen.opens ≡ old.seen.opens
  pub given : (t k : ℕ) → new.seen.given t k ≡ (old.seen.given t k || ((v == t) && is_within lo hi k))
  pub cells : new.cells ≡ old.cells

-- The task may give up none of these cells, nor join one.
pub record MayNothing (k : Kept) (v lo hi : ℕ) : Type 0 where
  pub no_let : (c : ℕ) → lo ≤ c → c < hi → MayLet k.tasks k.tree.tasks v c → ⊥
  pub no_join : (c : ℕ) (op : Op) → lo ≤ c → c < hi → MayJoin k.tasks k.tree.tasks k.seen v c op → ⊥

-- One run of cells of the task was passed: they stay, or all are given up by lets, or the one cell is joined.
pub data RunPassed (code : CodeParts) (v lo hi : ℕ) (old new : Kept) (before after : List Passed) : Type 0 where
  stays : MayNothing old v lo hi → new ≡ old → after ≡ before → RunPassed code v lo hi old new before after
  lets : ((c : ℕ) → lo ≤ c → c < hi → MayLet old.tasks old.tree.tasks v c) → LetsRange v lo hi old new → IsToldOf v lo hi false before after → RunPassed code v lo hi old new before after
  joins : (op : Op) → hi ≡ suc lo → MayJoin old.tasks old.tree.tasks old.seen v lo op → Joins code v lo op old new → IsToldOf v lo hi true before after → RunPassed code v lo hi old new before after

-- The cells of the task up to this one were passed, run by run.
pub data CellsPassed (code : CodeParts) (v : ℕ) (old : Kept) (before : List Passed) : ℕ → Kept → List Passed → Type 0 where
  no_cells : CellsPassed code v old before zero old before
  more_cells : {lo hi : ℕ} {mid new : Kept} {told after : List Passed} → CellsPassed code v old before lo mid told → lo < hi → RunPassed code v lo hi mid new told after → CellsPassed code v old before hi new after

-- What is kept of the task tells of no cell from this one on.
abbrev pub OwesNoneFrom : Kept → ℕ → ℕ → Type 0
OwesNoneFrom k v cells = (held : Held) → slice_get k.tasks v ≡ Some held → (c : ℕ) → cells ≤ c → value_at held.owed.pieces c ≡ None

-- All cells of the task were passed.
pub record TaskPassed (code : CodeParts) (v : ℕ) (old new : Kept) (before after : List Passed) : Type 0 where
  pub cells : CellsPassed code v old before 1048576 new after
  pub past : OwesNoneFrom new v 1048576

-- So many of the tasks were passed, one after the other.
pub data TasksPassed (code : CodeParts) (asked : List TaskNo) (old : Kept) : ℕ → Kept → List Passed → Type 0 where
  no_tasks : TasksPassed code asked old zero old []
  more_tasks : {i : ℕ} {mid new : Kept} {told after : List Passed} {task : TaskNo} → TasksPassed code asked old i mid told → slice_get asked i ≡ Some task → TaskPassed code task.0 mid new told after → TasksPassed code asked old (suc i) new after
