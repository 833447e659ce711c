-- A dependency system that is told anew of the tasks of a core: of each task but main, below its creator, the children of one task in their order,
-- and those of a task before those of the next; and then of the cells that the tasks have given up.
-- Read against: main has created a and b, and a has created c. Told of the children of main alone, the system has two entries, a and b. Then it is told
-- of c, the one child of a, and of no more. If a has given up a cell, it is told so last.
use Rattle.std.specs.Prelude.{◌≡◌, ◌≤◌, ◌<◌, ◌⊎◌, ℕ, true, false, List, None, Some, slice_get}
use Rattle.oss_body.specs.Relation.{IsBody}
use Rattle.oss_code.specs.declared.code.CodeParts.{CodeParts}
use Rattle.oss_deps.specs.declared.opened.Open.{Open}
use Rattle.oss_deps.specs.Opens.{AreOpens, Precedes, names}
use Rattle.oss_deps.specs.Seen.{Seen}
use Rattle.oss_judge.specs.Joined.{IsRising, held_right}
use Rattle.oss_kept_tasks.specs.declared.held.Held.{Held}
use Rattle.oss_kept_tasks.specs.declared.held.Owed.{Owed}
use Rattle.oss_machine.specs.Frames.{CodeScript}
use Rattle.oss_model.specs.Bodies.{Start}
use Rattle.oss_model.specs.Context.{right_of}
use Rattle.oss_model.specs.Machine.{State}
use Rattle.oss_model.specs.Order.{IsIn}
use Rattle.oss_model.specs.Rights.{right_from}
use Rattle.oss_ranges.specs.Cells.{value_at}
use Rattle.oss_ranges.specs.declared.piece.Piece.{Piece}
use Rattle.oss_syntax.specs.declared.access.Access.{Access}
use Rattle.oss_tree.specs.declared.task.Task.{Task as TreeTask}
use Rattle.oss_tree.specs.Tasks as tree
use Rattle.oss_tree.specs.Tasks.{number}
use Rattle.oss_core.specs.Kept.{IsCore}

-- These tasks and this tree are those of some core.
pub record AreSome (tasks : List Held) (t : tree.Kept) : Type 0 where
  pub code : CodeParts
  pub main : Start CodeScript
  pub first : List ℕ
  pub seen : Seen
  pub cells : List ℕ
  pub state : State CodeScript
  pub core : IsCore code main first (record { tasks = tasks; tree = t; seen = seen; cells = cells }) state

-- The accesses are those with which the task of this number has started, as its body tells them.
pub record AreAccesses (tasks : List Held) (t : ℕ) (accesses : List Access) : Type 0 where
  pub held : Held
  pub is : slice_get tasks t ≡ Some held
  pub rising : IsRising accesses
  pub rights : (code : CodeParts) (start : Start CodeScript) (found : List ℕ) → IsBody code start found held.body → (c : ℕ)
      → right_from false accesses c ≡ held_right (right_of start.context c)

-- The entry is that of a child of its creator in the tree, with the accesses of its task.
pub record IsEntry (tasks : List Held) (ts : List TreeTask) (o : Open) : Type 0 where
  pub creator : TreeTask
  pub creator_is : slice_get ts o.parent ≡ Some creator
  pub place : ℕ
  pub is : slice_get creator.children place ≡ Some (number o.task)
  pub accesses : AreAccesses tasks o.task o.accesses

-- The child at this place of the task u is one of those of tasks below t, or one of the first j of t.
abbrev pub Comes : ℕ → ℕ → ℕ → ℕ → Type 0
Comes t j u place = (u < t) ⊎ ((u ≡ t) × (place < j))

-- The system was told of the children of all tasks below t, and of the first j of t, and of no cell that was given up.
pub record IsTold (tasks : List Held) (ts : List TreeTask) (t j : ℕ) (seen : Seen) : Type 0 where
  pub opens_are : AreOpens seen.opens
  pub each : (o : Open) → IsIn o seen.opens → (e : IsEntry tasks ts o) × Comes t j o.parent e.place
  pub all : (u place c : ℕ) (one : TreeTask) → slice_get ts u ≡ Some one → slice_get one.children place ≡ Some (number c) → Comes t j u place
      → (o : Open) × IsIn o seen.opens × (o.task ≡ c)
  pub order : (o q : Open) → Precedes o q seen.opens → o.parent ≡ q.parent → (e : IsEntry tasks ts o) (f : IsEntry tasks ts q) → e.place < f.place
  pub given : (u c : ℕ) → seen.given u c ≡ false

-- One of the first n accesses names the cell.
abbrev pub Named : ℕ → List Access → ℕ → Type 0
Named n accesses c = (i : ℕ) × (a : Access) × (i < n) × (slice_get accesses i ≡ Some a) × (a.range.lo ≤ c) × (c < a.range.hi)

-- A task was told to have given up all cells of these that it owes no more, and no other cell was told.
pub record AreGaps (task : ℕ) (cells : ℕ → Type 0) (owed : List (Piece Owed)) (old new : Seen) : Type 0 where
  pub opens : new.opens ≡ old.opens
  pub keeps : (t c : ℕ) → old.given t c ≡ true → new.given t c ≡ true
  pub sound : (t c : ℕ) → new.given t c ≡ true → (old.given t c ≡ true) ⊎ ((t ≡ task) × cells c × (value_at owed c ≡ None))
  pub full : (c : ℕ) → cells c → value_at owed c ≡ None → new.given task c ≡ true

-- The cells from one up to another.
abbrev pub Between : ℕ → ℕ → ℕ → Type 0
Between lo hi c = (lo ≤ c) × (c < hi)

-- The task with this number has an entry that names the cell, and owes the cell no more.
pub record IsOwedNoMore (tasks : List Held) (opens : List Open) (t c : ℕ) : Type 0 where
  pub entry : Open
  pub listed : IsIn entry opens
  pub number_is : entry.task ≡ t
  pub named : names c entry ≡ true
  pub held : Held
  pub is : slice_get tasks t ≡ Some held
  pub none : value_at held.owed.pieces c ≡ None

-- Of each task below this number it was told what it has given up, and nothing else was told.
pub record AreGiven (tasks : List Held) (below : ℕ) (old new : Seen) : Type 0 where
  pub opens : new.opens ≡ old.opens
  pub sound : (t c : ℕ) → new.given t c ≡ true → (t < below) × IsOwedNoMore tasks old.opens t c
  pub full : (t c : ℕ) → t < below → IsOwedNoMore tasks old.opens t c → new.given t c ≡ true
