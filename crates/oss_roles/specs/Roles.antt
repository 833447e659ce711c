-- What the entries of a field are for: each is that of one access of a task to a cell, or that of the task itself.
-- Read against: main creates a task with in(x) and a weak out(y), of the cells 4 and 5, and draws 7, 8 and 9 for it. Entry 7 is the task's
-- own, and 7 its number; 8 is its access to cell 4, a strong read, and 9 that to cell 5. All three have the path 0 ∷ []. If an earlier task
-- writes x, 8 counts: the count of 7 waits for reads of 8. If this is the first task on x, 8 begins a list of main with all flags, and does
-- not count.
use Rattle.std.specs.Prelude.{◌≡◌, ◌≢◌, ◌⊎◌, ◌<◌, ℕ, Bool, true, List, [], ◌∷◌, length, Option, Some, None}
use Rattle.oss_syntax.specs.declared.access.Mode.{Mode}
use Rattle.oss_model.specs.Context.{right_of}
use Rattle.oss_model.specs.Machine.{Task, State, At, HasAccess, HasGiven}
use Rattle.oss_model.specs.Bodies.{Program}
use Rattle.oss_model.specs.Moves.{IsClosed}
use Rattle.oss_words.specs.declared.entry.EntryInfo.{EntryInfo}
use Rattle.oss_words.specs.Net.{Net, apart, top, first, after, Top, Child, Earlier}
use Rattle.oss_roles.specs.Numbers.{entry_number}

-- What an entry of a task is for: the task itself, or its access to a cell.
pub data Site : Type 0 where
  itself : Site
  on : (c : ℕ) → Site

-- What an entry is: whose, for what, in which mode, and whether its task waits for a flag of it.
pub record Role : Type 0 where
  -- the task's path
  pub path : List ℕ
  pub site : Site
  -- the task's number: that of its own entry
  pub task : ℕ
  pub mode : Mode
  pub strong : Bool
  -- the task's count waits for a flag of this entry
  pub counts : Bool

-- The entry of a task for a site, which is linked.
pub record Filed (net : Net) (role : ℕ → Option Role) (p : List ℕ) (y : Site) : Type 0 where
  pub entry : ℕ
  pub it : Role
  pub is : role entry ≡ Some it
  pub hangs : net.place entry ≢ apart
  pub path : it.path ≡ p
  pub site : it.site ≡ y

-- An entry has one role, whatever the state; the lists of a site are those of siblings, in the order of their creation.
pub record AreRoles (net : Net) (infos : ℕ → EntryInfo) (role : ℕ → Option Role) : Type 0 where
  -- what hangs has a role, and no two entries have the same
  pub hung : (e : ℕ) → net.place e ≢ apart → (r : Role) × (role e ≡ Some r)
  pub one : (e f : ℕ) (r q : Role) → role e ≡ Some r → role f ≡ Some q → r.path ≡ q.path → r.site ≡ q.site → e ≡ f
  -- the task's number is that of its own entry
  pub number : (e : ℕ) (r : Role) → role e ≡ Some r → (q : Role) × (role r.task ≡ Some q) × (q.path ≡ r.path) × (q.site ≡ itself)
  -- main has none
  pub below_main : (e : ℕ) (r : Role) → role e ≡ Some r → (k : ℕ) × (p : List ℕ) × (r.path ≡ k ∷ p)
  pub main : role 0 ≡ None
  -- what the words tell
  pub told : (e : ℕ) (r : Role) → role e ≡ Some r → net.place e ≢ apart
      → (net.mode e ≡ r.mode) × ((infos e).strong ≡ r.strong) × ((infos e).task ≡ r.task)
  -- an entry hangs as deep as its task stands
  pub depth : (e : ℕ) (r : Role) → role e ≡ Some r → net.place e ≢ apart → net.depth e ≡ length r.path
  -- the task above has a linked entry for the same site
  pub parent : (e : ℕ) (r : Role) (k i : ℕ) (p : List ℕ) → role e ≡ Some r → net.place e ≢ apart → r.path ≡ k ∷ i ∷ p
      → Filed net role (i ∷ p) r.site
  -- an entry hangs behind that of an earlier sibling
  pub behind_is : (e o : ℕ) (r q : Role) → role e ≡ Some r → role o ≡ Some q → net.place e ≡ after o
      → (i : ℕ) × (k : ℕ) × (p : List ℕ) × (q.path ≡ i ∷ p) × (r.path ≡ k ∷ p) × (q.site ≡ r.site) × (i < k)
  -- the children of main, of a task, and of one task on one site
  pub topmost : (e : ℕ) (r : Role) (k : ℕ) → role e ≡ Some r → net.place e ≢ apart → r.path ≡ k ∷ [] → Top net.place e
  pub below : (e f : ℕ) (r q : Role) (k : ℕ) → role e ≡ Some r → role f ≡ Some q → net.place e ≢ apart → net.place f ≢ apart
      → q.path ≡ k ∷ r.path → q.site ≡ r.site → Child net.place e f
  pub order : (e f : ℕ) (r q : Role) (i k : ℕ) (p : List ℕ) → role e ≡ Some r → role f ≡ Some q → net.place e ≢ apart → net.place f ≢ apart
      → r.path ≡ i ∷ p → q.path ≡ k ∷ p → r.site ≡ q.site → i < k → Earlier net.place e f

-- The tasks of a state but main, and their accesses, have linked entries, each of them at the number that the task's cells give it. There may be
-- more of those: while a creation runs, the new task's entries are linked before the state has the task.
pub record AreFiled {S : Type 0} (s : State S) (net : Net) (role : ℕ → Option Role) : Type 0 where
  pub access : (k c : ℕ) (p : List ℕ) (a : HasAccess s c (k ∷ p))
      → (x : Filed net role (k ∷ p) (on c)) × (x.it.mode ≡ a.mode) × (x.it.strong ≡ a.strong)
      × (x.entry ≡ entry_number x.it.task (right_of a.task.body.start.context) c)
  pub task : (k : ℕ) (p : List ℕ) (t : Task S) → At s (k ∷ p) t → Filed net role (k ∷ p) itself

-- What was given up in the words was given up in the state, and a task's own entry only if the task is closed; and what was given up in the
-- state was given up in the words, but for a reduction that was joined and whose entry is not given up yet.
pub record AreGiven {S : Type 0} (P : Program S) (s : State S) (net : Net) (role : ℕ → Option Role) (gave : ℕ → Bool) (joined : ℕ → Type 0) : Type 0 where
  pub cell : (e c : ℕ) (r : Role) → role e ≡ Some r → r.site ≡ on c → gave e ≡ true → HasGiven s c r.path
  pub own : (e : ℕ) (r : Role) → role e ≡ Some r → r.site ≡ itself → gave e ≡ true → (t : Task S) × At s r.path t × IsClosed P r.path t
  pub back : (e c : ℕ) (r : Role) → role e ≡ Some r → r.site ≡ on c → HasGiven s c r.path → (gave e ≡ true) ⊎ joined e

-- Where the entry e, which has its role, is hung up: behind the last sibling on its site, as the first below the task above, or as the first of main's.
pub data Hanging (net net' : Net) (role : ℕ → Option Role) (e : ℕ) (r : Role) (k : ℕ) (p : List ℕ) : Type 0 where
  -- all that hangs there of earlier siblings is the entry o or before it
  behind : (o : ℕ) (q : Role) (i : ℕ) → net'.place e ≡ after o → role o ≡ Some q → net.place o ≢ apart
      → q.path ≡ i ∷ p → q.site ≡ r.site → i < k
      → ((f : ℕ) (x : Role) (j : ℕ) → role f ≡ Some x → net.place f ≢ apart → x.path ≡ j ∷ p → x.site ≡ r.site → (f ≡ o) ⊎ (j < i))
      → Hanging net net' role e r k p
  under : (o : ℕ) (q : Role) → net'.place e ≡ first o → role o ≡ Some q → net.place o ≢ apart → q.path ≡ p → q.site ≡ r.site
      → ((f : ℕ) (x : Role) (j : ℕ) → role f ≡ Some x → net.place f ≢ apart → x.path ≡ j ∷ p → x.site ≡ r.site → ⊥)
      → Hanging net net' role e r k p
  first_top : net'.place e ≡ top → p ≡ []
      → ((f : ℕ) (x : Role) (j : ℕ) → role f ≡ Some x → net.place f ≢ apart → x.path ≡ j ∷ p → x.site ≡ r.site → ⊥)
      → Hanging net net' role e r k p

-- Roles are given to entries that were drawn for a new task at this path: its number is t, and they hang nowhere yet.
pub record Plans (net : Net) (role role' : ℕ → Option Role) (t : ℕ) (p : List ℕ) : Type 0 where
  pub each : (e : ℕ)
      → (role' e ≡ role e) ⊎ ((role e ≡ None) × (r : Role) × (role' e ≡ Some r) × (r.path ≡ p) × (r.task ≡ t) × (net.place e ≡ apart))
  -- no entry has a role with this path
  pub fresh : (e : ℕ) (r : Role) → role e ≡ Some r → r.path ≢ p
  pub own : (q : Role) × (role' t ≡ Some q) × (q.path ≡ p) × (q.site ≡ itself)
  pub unused : role t ≡ None
  pub not_main : role' 0 ≡ None
  pub child : (k : ℕ) × (a : List ℕ) × (p ≡ k ∷ a)
  -- no two have the same one
  pub one : (e f : ℕ) (r q : Role) → role' e ≡ Some r → role' f ≡ Some q → r.path ≡ p → q.path ≡ p → r.site ≡ q.site → e ≡ f
