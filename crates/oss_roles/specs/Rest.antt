-- A field at rest: every job stands in its slot, nothing is held, and nothing is being made. With it a field is opened at a state in the
-- middle of a run, and such a state is found if no seat holds a job.
-- Read against: main has created the task 7 of `Roles` and stands before a taskwait. Entries 7, 8 and 9 are linked, the jobs of main and 7
-- stand in the slots 0 and 7, and the count of 7 is 1 if an earlier task still has cell 4, and else 0.
use Rattle.std.specs.Prelude.{◌≡◌, ◌≢◌, ◌<◌, ℕ, Bool, true, false, List, [], ◌∷◌, Option, Some, None}
use Rattle.oss_model.specs.Bodies.{Program, Body}
use Rattle.oss_model.specs.Machine.{Task, State, At}
use Rattle.oss_words.specs.Net.{Net, apart}
use Rattle.oss_words.specs.Rule.{Kept}
use Rattle.oss_words.specs.Sums.{below}
use Rattle.oss_words.specs.Views.{View}
use Rattle.oss_roles.specs.Counting.{stands, weight}
use Rattle.oss_roles.specs.Field.{Parts, IsNumberOf, AreLast}
use Rattle.oss_roles.specs.Roles.{Role, Site, itself, on, AreRoles, AreFiled, AreGiven}
use Rattle.oss_roles.specs.Sights.{Sight, Telling}

-- A view that knows of nothing but the words.
abbrev pub idle : {S : Type 0} → View → Sight S
idle v = record {
  words = v;
  bears = [];
  makes = [];
  drawn = [];
  ready = [];
  loaded = [];
  joined = [];
  owes = [];
  seen = [];
  still = [];
}

-- The job of a task is at home, and tells its last children.
pub record IsHome {S J : Type 0} (is_job : Telling S J) (k : Parts J) (sights : List (Sight S)) (net : Net) (role : ℕ → Option Role)
    (t : ℕ) (p : List ℕ) (b : Body S) : Type 0 where
  pub job : J
  pub last : Site → Option ℕ
  pub one : k.bodies t ≡ 1
  pub stands_there : k.jobs t ≡ Some job
  pub is : is_job job t b last
  pub lasts : AreLast sights net role p last

-- The words and slots stand for this state, and one seat knows of nothing but the words.
pub record AtRest {S J : Type 0} (P : Program S) (is_job : Telling S J) (n : ℕ) (net : Net) (gave : ℕ → Bool) (role : ℕ → Option Role)
    (k : Parts J) (v : View) (s : State S) : Type 0 where
  pub words : Kept n net gave k.states k.infos (v ∷ [])
  pub gave_hangs : (e : ℕ) → gave e ≡ true → net.place e ≢ apart
  pub roles : AreRoles net k.infos role
  pub filed : AreFiled s net role
  pub given : AreGiven P s net role gave (λ e. ⊥)
  pub cells : s.cells ≡ k.cells
  -- each role is that of a task which is there, and whose job is at home
  pub there : (e : ℕ) (r : Role) → role e ≡ Some r → (u : Task S) × At s r.path u
  pub home : (t : ℕ) (p : List ℕ) (u : Task S) → IsNumberOf role t p → At s p u → IsHome is_job k (idle v ∷ []) net role t p u.body
  pub unused : (e : ℕ) → e ≢ 0 → role e ≡ None → (k.bodies e ≡ 0) × (k.jobs e ≡ None)
  -- a count is the number of flags that are waited for
  pub counted : (t : ℕ) (q : Role) → role t ≡ Some q → q.site ≡ itself → k.counts t ≡ below (λ e. weight t (role e) (k.states e)) n
  pub uncounted : (t : ℕ) → t ≢ 0 → t < n → ((q : Role) → role t ≡ Some q → q.site ≡ itself → ⊥) → k.counts t ≡ 18446744073709551615
  pub main : k.counts 0 ≡ 0
  pub open_start : (e : ℕ) (r : Role) → role e ≡ Some r → net.place e ≢ apart → r.counts ≡ false → r.strong ≡ true
      → stands r.mode (k.states e) ≡ true
  pub strong : (e : ℕ) (r : Role) → role e ≡ Some r → r.counts ≡ true → r.strong ≡ true
  -- no value is left, and the cell words are filled
  pub left : (e : ℕ) → (k.states e).left ≡ false
  pub numbered : (e c : ℕ) (r : Role) → role e ≡ Some r → net.place e ≢ apart → r.site ≡ on c → k.cell_of e ≡ c

-- The job of a task of the state stands in its slot, and tells its body and its last children.
pub record StandsAtHome {S J : Type 0} (is_job : Telling S J) (k : Parts J) (role : ℕ → Option Role) (p : List ℕ) (u : Task S)
    : Type 0 where
  pub number : ℕ
  pub is : IsNumberOf role number p
  pub job : J
  pub last : Site → Option ℕ
  pub stands : k.jobs number ≡ Some job
  pub one : k.bodies number ≡ 1
  pub tells : is_job job number u.body last
