-- Books with rows of tasks of a state, and of their accesses; and what a new row of the state has to be.
-- Read against: the state of `OfState` of `oss_filing`. When the rows 1 to 4 are there, the tasks 1 and 4 have their own rows, and the task 1 has those
-- of its cells 4 and 5. The next row is that of the task 4 on cell 5: the entry above is 3, which is that of the task 1 there.
use Rattle.std.specs.Prelude.{◌≡◌, ◌≢◌, ◌<◌, ◌≤◌, ◌+◌, ◌↔◌, ℕ, true, false, List, [], ◌∷◌, length, Option, Some, None}
use Rattle.oss_syntax.specs.declared.access.Mode.TheVariants.{Read}
use Rattle.oss_model.specs.Bodies.{Program, Start}
use Rattle.oss_model.specs.Context.{right_of}
use Rattle.oss_model.specs.History.{IsMade}
use Rattle.oss_model.specs.Machine.{Task, State, At, HasAccess, HasGiven}
use Rattle.oss_model.specs.Moves.{IsClosed}
use Rattle.oss_model.specs.Rights.{Right}
use Rattle.oss_roles.specs.Field.{IsNumberOf}
use Rattle.oss_roles.specs.Numbers.{entry_number}
use Rattle.oss_roles.specs.Roles.{Role, Site, itself, on}
use Rattle.oss_filing.specs.OfState.{AreOfState}
use Rattle.oss_filing.specs.Rows.{given_in, row_of}
use Rattle.oss_rows.specs.declared.book.NewRow.{NewRow}
use Rattle.oss_rows.specs.Booked.{Contents, IsBooked, IsNew, and_role, grown}

-- Some entry has this role's path and site.
pub record HasRole (role : ℕ → Option Role) (p : List ℕ) (y : Site) : Type 0 where
  pub entry : ℕ
  pub it : Role
  pub is : role entry ≡ Some it
  pub path : it.path ≡ p
  pub site : it.site ≡ y

-- The rows of the book are those of tasks of the state, and of their accesses, each at the number that the task's cells give it.
pub record AreOfTasks {S : Type 0} (P : Program S) (s : State S) (b : Contents) (role : ℕ → Option Role) : Type 0 where
  pub booked : IsBooked b role
  pub own : (e : ℕ) (r : Role) → role e ≡ Some r → r.site ≡ itself → ((u : Task S) × At s r.path u) × (r.mode ≡ Read)
  pub cell : (e c : ℕ) (r : Role) → role e ≡ Some r → r.site ≡ on c
      → (a : HasAccess s c r.path) × (r.mode ≡ a.mode) × (r.strong ≡ a.strong) × (e ≡ entry_number r.task (right_of a.task.body.start.context) c)
  pub given : (e c : ℕ) (r : Role) → role e ≡ Some r → r.site ≡ on c → ((given_in (row_of b.rows e) ≡ true) ↔ HasGiven s c r.path)
  pub closed : (e : ℕ) (r : Role) → role e ≡ Some r → r.site ≡ itself → given_in (row_of b.rows e) ≡ true
      → (t : Task S) × At s r.path t × IsClosed P r.path t

-- The row is that of a task of the state itself, whose creator has the number in `parent`; its earlier siblings alone have rows.
pub record IsTaskRow {S : Type 0} (P : Program S) (s : State S) (b : Contents) (role : ℕ → Option Role) (w : NewRow) (k : ℕ)
    (p : List ℕ) : Type 0 where
  pub task : Task S
  pub at_ : At s (k ∷ p) task
  pub later : (j : ℕ) → HasRole role (j ∷ p) itself → j < k
  pub creator : IsNumberOf role w.parent p
  pub mode : w.mode ≡ Read
  pub strong : w.strong ≡ false
  pub depth : w.depth ≡ length (k ∷ p)
  pub shallow : length (k ∷ p) ≤ 64
  pub number : w.task ≡ 1 + length b.rows
  pub cell : w.cell ≡ None
  pub closed : w.given ≡ true → IsClosed P (k ∷ p) task

-- The entry above on a cell, of a task whose creator at this path has the number t and these rights.
abbrev pub parent_entry : List ℕ → ℕ → (ℕ → Right) → ℕ → ℕ
parent_entry [] t own c = 0
parent_entry (i ∷ p) t own c = entry_number t own c

-- The row is that of an access of the state, of the task whose own row has the number in `task`; the entry above has its row, and so have of
-- siblings on the cell the earlier ones alone.
pub record IsCellRow {S : Type 0} (s : State S) (b : Contents) (role : ℕ → Option Role) (w : NewRow) (k : ℕ) (p : List ℕ)
    (c : ℕ) : Type 0 where
  pub access : HasAccess s c (k ∷ p)
  pub later : (j : ℕ) → HasRole role (j ∷ p) (on c) → j < k
  pub own : (q : Role) × (role w.task ≡ Some q) × (q.path ≡ k ∷ p) × (q.site ≡ itself)
  pub number : 1 + length b.rows ≡ entry_number w.task (right_of access.task.body.start.context) c
  pub creator : ℕ
  pub creator_is : IsNumberOf role creator p
  pub creator_task : Task S
  pub creator_at : At s p creator_task
  pub parent : w.parent ≡ parent_entry p creator (right_of creator_task.body.start.context) c
  pub above : p ≢ [] → HasRole role p (on c)
  pub mode : w.mode ≡ access.mode
  pub strong : w.strong ≡ access.strong
  pub depth : w.depth ≡ length (k ∷ p)
  pub shallow : length (k ∷ p) ≤ 64
  pub cell : w.cell ≡ Some c
  pub inside : c < length b.mains
  pub given : (w.given ≡ true) ↔ HasGiven s c (k ∷ p)

-- Such a row is new, and with it the book has the rows of tasks of the state still.
abbrev pub TaskRowsAreAdded : Type 0 → Type 0
TaskRowsAreAdded S = (P : Program S) (s : State S) (b : Contents) (role : ℕ → Option Role) (w : NewRow) (k : ℕ) (p : List ℕ)
    → AreOfTasks P s b role → IsTaskRow P s b role w k p
    → (r : Role) × (r.path ≡ k ∷ p) × (r.site ≡ itself) × IsNew b role w r × AreOfTasks P s (grown b w) (and_role role (1 + length b.rows) r)

abbrev pub CellRowsAreAdded : Type 0 → Type 0
CellRowsAreAdded S = (P : Program S) (main : Start S) (s : State S) (b : Contents) (role : ℕ → Option Role) (w : NewRow) (k : ℕ) (p : List ℕ) (c : ℕ)
    → IsMade P main s → AreOfTasks P s b role → IsCellRow s b role w k p c
    → (r : Role) × (r.path ≡ k ∷ p) × (r.site ≡ on c) × IsNew b role w r × AreOfTasks P s (grown b w) (and_role role (1 + length b.rows) r)

-- With the rows of all tasks and accesses the rows are those of the state.
abbrev pub AllRowsAreOfState : Type 0 → Type 0
AllRowsAreOfState S = (P : Program S) (s : State S) (b : Contents) (role : ℕ → Option Role)
    → AreOfTasks P s b role
    → ((k : ℕ) (p : List ℕ) (t : Task S) → At s (k ∷ p) t → HasRole role (k ∷ p) itself)
    → ((k c : ℕ) (p : List ℕ) → HasAccess s c (k ∷ p) → HasRole role (k ∷ p) (on c))
    → AreOfState P s b.rows role

-- A new book has no row.
abbrev pub NewBooksAreOfNone : Type 0 → Type 0
NewBooksAreOfNone S = (P : Program S) (s : State S) (b : Contents) → IsBooked b (λ e. None) → AreOfTasks P s b (λ e. None)
