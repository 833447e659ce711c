-- Tasks and states of the machine; when a task is ready, and when it is complete.
-- The machine has each task that was created and not included, in whatever order they run. A task may begin
-- once its strong accesses are satisfied (OmpSs-2, dependency clauses); it is complete once it and all tasks
-- below it are done (taskwait directive).
-- Read against: a task with weakinout(a) over children, which begins at once and is complete only after them;
-- and a taskwait in main after it.
use Rattle.std.specs.Prelude.{◌≡◌, ℕ, ◌+◌, ◌<◌, ◌==◌, Bool, true, false, ◌&&◌, if◌then◌else◌, List, [], ◌∷◌, Option, Some, None}
use Rattle.oss_syntax.specs.declared.access.Mode.{Mode}
use Rattle.oss_syntax.specs.declared.access.Mode.TheVariants.{Read, Write}
use Rattle.oss_model.specs.Forest.{Forest, IsDone, IsWriteSatisfied, IsReadSatisfied}
use Rattle.oss_model.specs.Order.{IsIn}
use Rattle.oss_model.specs.Rights.{Right, Holds}
use Rattle.oss_model.specs.Context.{Context, in_clauses, right_of}
use Rattle.oss_model.specs.Bodies.{Program, Act, Body, stack_from}
use Rattle.oss_model.specs.Bodies.Act.{Awaited, Waited, WaitedOn}

-- A task: its body, and the cells that it has given up.
pub record Task (S : Type 0) : Type 0 where
  pub body : Body S
  pub given : List ℕ

-- A state of the machine: the memory, and the tasks. Their order in the list means nothing.
pub record State (S : Type 0) : Type 0 where
  pub cells : List ℕ
  pub tasks : List (Task S)

-- The paths are one.
abbrev pub same_path : List ℕ → List ℕ → Bool
same_path [] [] = true
same_path [] (y ∷ ys) = false
same_path (x ∷ xs) [] = false
same_path (x ∷ xs) (y ∷ ys) = (x == y) && same_path xs ys

-- The task with this path.
unfoldable pub find : {S : Type 0} → List (Task S) → List ℕ → Option (Task S)
find [] p = None
find (t ∷ ts) p = if same_path t.body.start.path p then Some t else find ts p

-- The task at this path.
abbrev pub At : {S : Type 0} → State S → List ℕ → Task S → Type 0
At s p t = find s.tasks p ≡ Some t

-- The task at this path has a right to the cell from its creation on.
pub record HasAccess {S : Type 0} (s : State S) (c : ℕ) (p : List ℕ) : Type 0 where
  pub task : Task S
  pub at_ : At s p task
  pub mode : Mode
  pub strong : Bool
  pub right : right_of task.body.start.context c ≡ Holds mode strong

-- An access of a child of main.
pub data IsTop {S : Type 0} (s : State S) (c : ℕ) : List ℕ → Type 0 where
  is_top : {k : ℕ} → HasAccess s c (k ∷ []) → IsTop s c (k ∷ [])

-- An access, and one of a child of its task.
pub data IsChild {S : Type 0} (s : State S) (c : ℕ) : List ℕ → List ℕ → Type 0 where
  is_child : {k i : ℕ} {p : List ℕ} → HasAccess s c (i ∷ p) → HasAccess s c (k ∷ i ∷ p) → IsChild s c (i ∷ p) (k ∷ i ∷ p)

-- An access of an earlier sibling.
pub data IsEarlier {S : Type 0} (s : State S) (c : ℕ) : List ℕ → List ℕ → Type 0 where
  is_earlier : {i k : ℕ} {p : List ℕ} → i < k → HasAccess s c (i ∷ p) → IsEarlier s c (i ∷ p) (k ∷ p)

-- The mode of a right.
abbrev pub mode_of : Right → Mode
mode_of (Holds m strong) = m
mode_of _ = Read

-- The mode of a task's access to the cell.
abbrev pub mode_in : {S : Type 0} → Option (Task S) → ℕ → Mode
mode_in (Some t) c = mode_of (right_of t.body.start.context c)
mode_in None c = Read

-- The task at this path has given up the cell.
pub record HasGiven {S : Type 0} (s : State S) (c : ℕ) (p : List ℕ) : Type 0 where
  pub task : Task S
  pub at_ : At s p task
  pub given : IsIn c task.given

-- The forest of all accesses to the cell.
abbrev pub accesses : {S : Type 0} → State S → ℕ → Forest (List ℕ)
accesses s c = record {
  Top = IsTop s c;
  Child = IsChild s c;
  Earlier = IsEarlier s c;
  mode = λ p. mode_in (find s.tasks p) c;
  Given = HasGiven s c;
}

-- The task may begin: its strong reads and writes are satisfied. Main always may, and weak accesses and folds
-- ask for nothing.
abbrev pub IsReady : {S : Type 0} → State S → List ℕ → Context → Type 0
IsReady s [] x = Unit {0}
IsReady s (k ∷ p) x =
    ((c : ℕ) → right_of x c ≡ Holds Read true → IsReadSatisfied (accesses s c) (k ∷ p)) × ((c : ℕ) → right_of x c ≡ Holds Write true → IsWriteSatisfied (accesses s c) (k ∷ p))

-- The cell is one that the task must give up. Main has none.
abbrev pub Owes : List ℕ → Context → ℕ → Type 0
Owes [] x c = ⊥
Owes (k ∷ p) x c = (m : Mode) × (strong : Bool) × (right_of x c ≡ Holds m strong)

-- The body has ended, each cell is given up, and each child is complete.
pub data IsComplete {S : Type 0} (P : Program S) (s : State S) : List ℕ → Type 0 where
  complete : {p : List ℕ} {t : Task S} → At s p t → (stack_from P t.body.start t.body.found).ended ≡ true → ((c : ℕ) → Owes p t.body.start.context c → IsIn c t.given)
      → ((k : ℕ) (u : Task S) → At s (k ∷ p) u → IsComplete P s (k ∷ p)) → IsComplete P s p

-- What an act waits for, where its task has created n tasks: a wait for each child, an await for the newest,
-- and a wait on for each child's access to its cells.
abbrev pub IsWaitMet : {S : Type 0} → Program S → State S → List ℕ → ℕ → Act S → Type 0
IsWaitMet P s p n Waited = (k : ℕ) (u : Task _) → k < n → At s (k ∷ p) u → IsComplete P s (k ∷ p)
IsWaitMet P s p n Awaited = (k : ℕ) (u : Task _) → k + 1 ≡ n → At s (k ∷ p) u → IsComplete P s (k ∷ p)
IsWaitMet P s p n (WaitedOn named) = (k c : ℕ) → k < n → in_clauses named c ≡ true → HasAccess s c (k ∷ p) → IsDone (accesses s c) (k ∷ p)
IsWaitMet P s p n _ = Unit {0}
