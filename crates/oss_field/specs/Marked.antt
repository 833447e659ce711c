-- What seats keep of entries whose values are left is so, and stays so.
-- Read against: the seat of `Marks` keeps of 14 that its cell is 5 and its value 6. Whatever other seats do, 14 goes on to hang, its value is left from then on, and its value word is 6.
use Rattle.std.specs.Prelude.{◌≡◌, ◌≢◌, ℕ, true, false, List, Option, Some}
use mathlib.Core.Option as maybe
use lib.ListN.{get_elem?}
use Rattle.oss_words.specs.declared.entry.EntryState.{EntryState}
use Rattle.oss_words.specs.Net.{Net, Child, apart}
use Rattle.oss_words.specs.Views.{Among}
use Rattle.oss_roles.specs.Roles.{Role, on}
use Rattle.oss_field.specs.declared.view.SeatView.{SeatView}
use Rattle.oss_field.specs.Marks.{Fact, Mark, value_is, cell_is, has_none, has_child, has_last}

-- What is kept of the entry e is so.
abbrev pub IsFact : Net → (ℕ → Option Role) → (ℕ → EntryState) → (ℕ → ℕ) → ℕ → Fact → Type 0
IsFact net role states values e (value_is z) = values e ≡ z
IsFact net role states values e (cell_is c) = (r : Role) × (role e ≡ Some r) × (r.site ≡ on c)
IsFact net role states values e has_none = (states e).headed ≡ false
IsFact net role states values e (has_child c) = Child net.place e c
IsFact net role states values e (has_last c) = Child net.place e c × (net.last e ≡ c)

-- The entry hangs, its value is left, and what is kept of it is so.
pub record IsMarked (net : Net) (role : ℕ → Option Role) (states : ℕ → EntryState) (values : ℕ → ℕ) (a : Mark) : Type 0 where
  pub hangs : net.place a.entry ≢ apart
  pub left : (states a.entry).left ≡ true
  pub fact : IsFact net role states values a.entry a.fact

-- What all seats keep.
pub record AreMarked (net : Net) (role : ℕ → Option Role) (states : ℕ → EntryState) (values : ℕ → ℕ) (views : List SeatView) : Type 0 where
  pub each : (id : ℕ) (v : SeatView) → get_elem? views id ≡ maybe.some v → (a : Mark) → Among a v.known.marks → IsMarked net role states values a

-- A state whose value is left has its value left after a step too, and no child if it had none.
pub record StaysLeft (a c : EntryState) : Type 0 where
  pub left : a.left ≡ true → c.left ≡ true
  pub none : a.left ≡ true → a.headed ≡ false → c.headed ≡ false

-- What a step leaves of the entries that hang and whose values are left.
pub record KeepsMarks (net net' : Net) (role role' : ℕ → Option Role) (states states' : ℕ → EntryState) (values values' : ℕ → ℕ) : Type 0 where
  pub place : (e : ℕ) → net.place e ≢ apart → net'.place e ≡ net.place e
  pub last : (e : ℕ) → net.place e ≢ apart → (states e).left ≡ true → net'.last e ≡ net.last e
  pub role_is : (e : ℕ) (r : Role) → role e ≡ Some r → role' e ≡ Some r
  pub stays : (e : ℕ) → net.place e ≢ apart → StaysLeft (states e) (states' e)
  pub value : (e : ℕ) → net.place e ≢ apart → (states e).left ≡ true → values' e ≡ values e
