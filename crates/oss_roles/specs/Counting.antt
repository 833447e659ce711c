-- The count of a task: how many of its entries still wait for the flag that they need, one more until it is opened, and one for each count
-- down that a seat owes because it has set such a flag.
-- Read against: the task 7 of `Roles`, if 8 counts. Its count is filled as 2. When reads of 8 is set, the seat that sets it owes a count down:
-- 1 for the opening and 1 owed. After the opening it is 1, and after the count down 0: the task is there, and cell 4 may be read.
use Rattle.std.specs.Prelude.{◌≡◌, ◌≢◌, ◌↔◌, ◌⊎◌, ◌<◌, ◌≤◌, ◌+◌, ℕ, Bool, true, false, not, ◌&&◌, ◌==◌, Option, Some, None}
use Rattle.oss_syntax.specs.declared.access.Mode.{Mode}
use Rattle.oss_syntax.specs.declared.access.Mode.TheVariants.{Read, Write, Fold}
use Rattle.oss_model.specs.Machine.{Task, State, At}
use Rattle.oss_model.specs.Rights.{Right}
use Rattle.oss_words.specs.declared.entry.EntryState.{EntryState}
use Rattle.oss_words.specs.declared.entry.EntryInfo.{EntryInfo}
use Rattle.oss_words.specs.Net.{Net, apart}
use Rattle.oss_words.specs.Sums.{below, num}
use Rattle.oss_roles.specs.Numbers.{cells_below, entry_number, has_cell}
use Rattle.oss_roles.specs.Roles.{Role, itself}

-- The flag that an access of this mode needs stands. A reduction needs none.
abbrev pub stands : Mode → EntryState → Bool
stands Read c = c.reads
stands Write c = c.writes
stands (Fold op) c = true

-- The number of this flag is that of the flag which an access of this mode needs.
abbrev pub needed : Mode → ℕ → Bool
needed Read f = f == 3
needed Write f = f == 4
needed (Fold op) f = false

-- What an entry adds to the count of the task t.
abbrev pub weight : ℕ → Option Role → EntryState → ℕ
weight t None c = 0
weight t (Some r) c = num ((r.task == t) && (r.counts && not (stands r.mode c)))

-- What a seat owes to the count of t that has set the flag f of an entry with this info word.
abbrev pub owing : ℕ → EntryInfo → ℕ → ℕ
owing t i f = num ((i.task == t) && (i.strong && needed i.mode f))

-- What the counts of n entries say, if so many count downs are owed.
pub record AreCounts {S : Type 0} (s : State S) (n : ℕ) (net : Net) (role : ℕ → Option Role) (states : ℕ → EntryState) (opened : ℕ → Bool)
    (owed : ℕ → ℕ) (count : ℕ → ℕ) : Type 0 where
  pub sum : (t : ℕ) (q : Role) → role t ≡ Some q → q.site ≡ itself
      → count t ≡ num (not (opened t)) + below (λ e. weight t (role e) (states e)) n + owed t
  -- the word of a number that is no task's is not filled
  pub blank : (t : ℕ) → t ≢ 0 → t < n → ((q : Role) → role t ≡ Some q → q.site ≡ itself → ⊥)
      → (count t ≡ 18446744073709551615) × (owed t ≡ 0)
  -- main is ready from the start
  pub main : count 0 ≡ 0
  -- a task is opened if it is in the state
  pub opened_is : (t : ℕ) (q : Role) → role t ≡ Some q → q.site ≡ itself → ((opened t ≡ true) ↔ ((u : Task S) × At s q.path u))
  -- what does not count, and needs a flag, starts with it; what counts is strong
  pub open_start : (e : ℕ) (r : Role) → role e ≡ Some r → net.place e ≢ apart → r.counts ≡ false → r.strong ≡ true
      → stands r.mode (states e) ≡ true
  pub strong : (e : ℕ) (r : Role) → role e ≡ Some r → r.counts ≡ true → r.strong ≡ true

-- The roles of the entries of the new task t, which has such rights to so many cells: its own, for which the count does not wait, and that on each
-- cell that it has, at the number that its cells give it, for which the count waits or not; no flag that is waited for stands yet.
pub record AreNumbered (role : ℕ → Option Role) (states : ℕ → EntryState) (t cells : ℕ) (own : ℕ → Right) (waits : ℕ → Bool) : Type 0 where
  pub own_role : (q : Role) × (role t ≡ Some q) × (q.counts ≡ false)
  pub each : (c : ℕ) → c < cells → has_cell (own c) ≡ true
      → (r : Role) × (role (entry_number t own c) ≡ Some r) × (r.task ≡ t) × (r.counts ≡ waits c)
  pub no_more : (e : ℕ) (r : Role) → role e ≡ Some r → r.task ≡ t
      → (e ≡ t) ⊎ ((c : ℕ) × (c < cells) × (has_cell (own c) ≡ true) × (e ≡ entry_number t own c))
  pub waited : (e : ℕ) (r : Role) → role e ≡ Some r → r.task ≡ t → r.counts ≡ true → stands r.mode (states e) ≡ false

-- With such roles the entries below n for which the count waits are as many as the cells of the task for which it waits.
abbrev pub CountsAreOfCells : Type 0
CountsAreOfCells = (role : ℕ → Option Role) (states : ℕ → EntryState) (t n cells : ℕ) (own : ℕ → Right) (waits : ℕ → Bool)
    → AreNumbered role states t cells own waits → t + 1 + cells_below own cells ≤ n
    → below (λ e. weight t (role e) (states e)) n ≡ below (λ c. num (has_cell (own c) && waits c)) cells
