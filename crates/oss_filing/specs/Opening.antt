-- A field at rest from rows that are filed.
-- Read against: the state of `OfState`, whose jobs stand in the slots 0, 1, 4 and 6, over 10 entries with the words and counts of its rows. One seat, which
-- knows of nothing, has such a field, and the rule holds of it if a run can reach the state.
use Rattle.std.specs.Prelude.{◌≡◌, ◌≢◌, ◌<◌, ℕ, List, [], ◌∷◌, length, Option, Some, None, slice_index}
use Rattle.oss_model.specs.Bodies.{Program}
use Rattle.oss_model.specs.Machine.{State, Task, At}
use Rattle.oss_words.specs.Net.{Net}
use Rattle.oss_words.specs.Views.{View}
use Rattle.oss_roles.specs.Field.{Parts, IsNumberOf}
use Rattle.oss_roles.specs.Rest.{idle, AtRest, IsHome}
use Rattle.oss_roles.specs.Roles.{Role, on}
use Rattle.oss_roles.specs.Sights.{Telling}
use Rattle.oss_filing.specs.declared.row.Row.{Row}
use Rattle.oss_filing.specs.Counted.{AreCounted, HaveTasks}
use Rattle.oss_filing.specs.Filed.{IsFiled, info_in, state_in}
use Rattle.oss_filing.specs.OfState.{AreOfState, CountsStand, StandFor}
use Rattle.oss_filing.specs.Planned.{ArePlanned}
use Rattle.oss_filing.specs.Rows.{AreSound}

-- The parts have these words and counts, and the cells of the state; each job is at home, no other slot is used, and the cell words tell the cells.
pub record IsOpened {S J : Type 0} (is_job : Telling S J) (n : ℕ) (net : Net) (role : ℕ → Option Role) (ws counts : List ℕ) (s : State S) (k : Parts J)
    (v : View) : Type 0 where
  pub states : (e : ℕ) → k.states e ≡ state_in ws e
  pub infos : (e : ℕ) → k.infos e ≡ info_in ws e
  pub counts_are : (t : ℕ) → t < n → k.counts t ≡ slice_index counts t
  pub cells : s.cells ≡ k.cells
  pub home : (t : ℕ) (p : List ℕ) (u : Task S) → IsNumberOf role t p → At s p u → IsHome is_job k (idle v ∷ []) net role t p u.body
  pub unused : (e : ℕ) → e ≢ 0 → role e ≡ None → (k.bodies e ≡ 0) × (k.jobs e ≡ None)
  pub numbered : (e c : ℕ) (r : Role) → role e ≡ Some r → r.site ≡ on c → k.cell_of e ≡ c
  pub held : v.held ≡ []
  pub half : v.half ≡ []

-- Rows of roles may be filed, and their tasks have counts.
abbrev pub PlannedRowsFit : Type 0
PlannedRowsFit = (rows : List Row) (role : ℕ → Option Role) → ArePlanned rows role → length rows < 16777216 → AreSound rows × HaveTasks rows

-- The words over the rows of a state stand for it.
abbrev pub FiledRowsStand : Type 0 → Type 0
FiledRowsStand S = (P : Program S) (s : State S) (rows : List Row) (role : ℕ → Option Role) (n : ℕ) (ws : List ℕ)
    → AreOfState P s rows role → (filed : IsFiled n rows ws)
    → StandFor P s n filed.net filed.gave role (state_in ws) (info_in ws)

-- And so do the counts.
abbrev pub RowCountsStand : Type 0 → Type 0
RowCountsStand S = (P : Program S) (s : State S) (rows : List Row) (role : ℕ → Option Role) (n : ℕ) (ws counts : List ℕ)
    → AreOfState P s rows role → length rows < n → IsFiled n rows ws → AreCounted n rows ws counts
    → CountsStand n role (state_in ws) (slice_index counts)

-- With the jobs in their slots it is a field at rest.
abbrev pub FiledRowsRest : (S J : Type 0) → Telling S J → Type 0
FiledRowsRest S J is_job = (P : Program S) (s : State S) (rows : List Row) (role : ℕ → Option Role) (n : ℕ) (ws counts : List ℕ) (k : Parts J) (v : View)
    → AreOfState P s rows role → length rows < n → (filed : IsFiled n rows ws) → AreCounted n rows ws counts
    → IsOpened is_job n filed.net role ws counts s k v
    → AtRest P is_job n filed.net filed.gave role k v s
