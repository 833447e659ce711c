-- Rows that are those of all tasks of a state but main, with all cells of each; and what the words over them tell of the state.
-- Those of complete tasks are among them: a table tells its state by its entries alone, and the last child of a task that is complete is what the next
-- one is linked behind.
-- Read against: the rows 1 to 7 of `Rows`, where the task 6 has not begun, the task 4 has ended and given up cell 5, and the task 1 has given up cell 4
-- and waits for the task 4. The rows 2 and 5 are given up, and row 4 may be, since its task has ended and has given up its cell.
use Rattle.std.specs.Prelude.{◌≡◌, ◌≢◌, ◌<◌, ◌↔◌, ℕ, Bool, true, false, List, [], ◌∷◌, Option, Some}
use Rattle.oss_model.specs.Bodies.{Program}
use Rattle.oss_model.specs.Context.{right_of}
use Rattle.oss_model.specs.Machine.{Task, State, At, HasAccess, HasGiven}
use Rattle.oss_model.specs.Moves.{IsClosed}
use Rattle.oss_words.specs.declared.entry.EntryInfo.{EntryInfo}
use Rattle.oss_words.specs.declared.entry.EntryState.{EntryState}
use Rattle.oss_words.specs.Net.{Net, apart}
use Rattle.oss_words.specs.Rule.{Kept}
use Rattle.oss_words.specs.Sums.{below}
use Rattle.oss_words.specs.Views.{View}
use Rattle.oss_roles.specs.Counting.{stands, weight}
use Rattle.oss_roles.specs.Numbers.{entry_number}
use Rattle.oss_roles.specs.Roles.{Role, itself, on, AreRoles, AreFiled, AreGiven}
use Rattle.oss_filing.specs.declared.row.Row.{Row}
use Rattle.oss_filing.specs.Planned.{ArePlanned}
use Rattle.oss_filing.specs.Rows.{given_in, row_of}

-- The rows are those of the state, with these roles.
pub record AreOfState {S : Type 0} (P : Program S) (s : State S) (rows : List Row) (role : ℕ → Option Role) : Type 0 where
  pub planned : ArePlanned rows role
  -- each task but main has its own, and one for each of its cells, at the number that its cells give it
  pub task : (k : ℕ) (p : List ℕ) (t : Task S) → At s (k ∷ p) t → (e : ℕ) × (r : Role) × (role e ≡ Some r) × (r.path ≡ k ∷ p) × (r.site ≡ itself)
  pub access : (k c : ℕ) (p : List ℕ) (a : HasAccess s c (k ∷ p)) → (e : ℕ) × (r : Role) × (role e ≡ Some r) × (r.path ≡ k ∷ p) × (r.site ≡ on c)
      × (r.mode ≡ a.mode) × (r.strong ≡ a.strong) × (e ≡ entry_number r.task (right_of a.task.body.start.context) c)
  -- and there are no others
  pub there : (e : ℕ) (r : Role) → role e ≡ Some r → (u : Task S) × At s r.path u
  -- a row of a cell is given up if its task has given up the cell, and a task's own only if the task is closed
  pub given : (e c : ℕ) (r : Role) → role e ≡ Some r → r.site ≡ on c → ((given_in (row_of rows e) ≡ true) ↔ HasGiven s c r.path)
  pub closed : (e : ℕ) (r : Role) → role e ≡ Some r → r.site ≡ itself → given_in (row_of rows e) ≡ true
      → (t : Task S) × At s r.path t × IsClosed P r.path t

-- The words of n entries stand for the state, as far as it is told by entries: what a field at rest asks but for its slots, cells and counts.
pub record StandFor {S : Type 0} (P : Program S) (s : State S) (n : ℕ) (net : Net) (gave : ℕ → Bool) (role : ℕ → Option Role)
    (states : ℕ → EntryState) (infos : ℕ → EntryInfo) : Type 0 where
  pub words : (v : View) → v.held ≡ [] → v.half ≡ [] → Kept n net gave states infos (v ∷ [])
  pub gave_hangs : (e : ℕ) → gave e ≡ true → net.place e ≢ apart
  pub roles : AreRoles net infos role
  pub filed : AreFiled s net role
  pub given : AreGiven P s net role gave (λ e. ⊥)
  pub there : (e : ℕ) (r : Role) → role e ≡ Some r → (u : Task S) × At s r.path u
  pub open_start : (e : ℕ) (r : Role) → role e ≡ Some r → net.place e ≢ apart → r.counts ≡ false → r.strong ≡ true
      → stands r.mode (states e) ≡ true
  pub strong : (e : ℕ) (r : Role) → role e ≡ Some r → r.counts ≡ true → r.strong ≡ true
  pub left : (e : ℕ) → (states e).left ≡ false

-- The counts are those of the tasks among n entries, and no other is filled.
pub record CountsStand (n : ℕ) (role : ℕ → Option Role) (states : ℕ → EntryState) (count : ℕ → ℕ) : Type 0 where
  pub counted : (t : ℕ) (q : Role) → role t ≡ Some q → q.site ≡ itself → count t ≡ below (λ e. weight t (role e) (states e)) n
  pub uncounted : (t : ℕ) → t ≢ 0 → t < n → ((q : Role) → role t ≡ Some q → q.site ≡ itself → ⊥) → count t ≡ 18446744073709551615
  pub main : count 0 ≡ 0
