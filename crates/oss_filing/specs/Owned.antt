-- What the seat of a net knows of the rows that it files.
-- Read against: the rows 1 to 7 of `Rows`, all linked, of which 2 is given up: the view of the seat owns 0 to 7, has the links of 1 to 7, each at its
-- place, and the give of 2; it was told the infos of 1 to 7, and holds nothing.
use Rattle.std.specs.Prelude.{◌≡◌, ℕ, ◌<◌, ◌≤◌, true, List, [], ◌∷◌, Some}
use Rattle.oss_words.specs.Net.{Place}
use Rattle.oss_words.specs.Views.{Among}
use Rattle.oss_word_net.specs.Calls.{place_of}
use Rattle.oss_word_net.specs.Known.{Known, Told}
use Rattle.oss_filing.specs.declared.row.Row.{Row}
use Rattle.oss_filing.specs.Rows.{given_in, row_of}

-- The link of this row, where it was linked.
pub record IsLinkOf (rows : List Row) (n v : ℕ) (p : Place) : Type 0 where
  pub row : Row
  pub is : row_of rows v ≡ Some row
  pub within : v ≤ n
  pub place : p ≡ place_of row.after

-- The seat has linked the first n rows and no other, and knows their infos.
pub record HasLinked (k : Known) (rows : List Row) (n : ℕ) : Type 0 where
  pub linked : (v : ℕ) (r : Row) → v ≤ n → row_of rows v ≡ Some r → Among (record { entry = v; place = place_of r.after }) k.view.links
  pub links : (v : ℕ) (p : Place) → Among (record { entry = v; place = p }) k.view.links → IsLinkOf rows n v p
  pub told : (v : ℕ) (r : Row) → v ≤ n → row_of rows v ≡ Some r → Among (record { entry = v; info = r.info }) k.told

-- Of the first n it has given up those that are given up, and no other entry.
pub record HasGiven (k : Known) (rows : List Row) (n : ℕ) : Type 0 where
  pub gives : (v : ℕ) → Among v k.view.gives → (given_in (row_of rows v) ≡ true) × (v ≤ n)
  pub given : (v : ℕ) → v ≤ n → given_in (row_of rows v) ≡ true → Among v k.view.gives

-- It has the whole net and every entry of it, and was never split.
pub record IsAlone (k : Known) (size : ℕ) : Type 0 where
  pub size_is : k.entries ≡ size
  pub owned : (v : ℕ) → v < size → Among v k.view.owned
  pub splits : k.view.splits ≡ 0

-- A net with its one seat, as its calls name it.
pub record Owned : Type 0 where
  pub known : Known
  pub size : ℕ

-- Nothing is linked and nothing given up.
pub record IsBare (k : Known) : Type 0 where
  pub links : k.view.links ≡ []
  pub gives : k.view.gives ≡ []

-- What is kept of what a seat knew: the entries that it owns, the size of the net, and what it was told.
pub record Keeps (a b : Known) : Type 0 where
  pub entries : b.entries ≡ a.entries
  pub owned : b.view.owned ≡ a.view.owned
  pub splits : b.view.splits ≡ a.view.splits
  pub told : (t : Told) → Among t a.told → Among t b.told

-- All messages were delivered.
pub record Settles (a b : Known) : Type 0 where
  pub keeps : Keeps a b
  pub links : b.view.links ≡ a.view.links
  pub gives : b.view.gives ≡ a.view.gives
  pub empty : b.view.held ≡ []

-- A row was linked.
pub record Adds (v : ℕ) (r : Row) (a b : Known) : Type 0 where
  pub keeps : Keeps a b
  pub links : b.view.links ≡ record { entry = v; place = place_of r.after } ∷ a.view.links
  pub gives : b.view.gives ≡ a.view.gives
  pub told : Among (record { entry = v; info = r.info }) b.told
  pub empty : b.view.held ≡ []

-- An entry was given up.
pub record Frees (v : ℕ) (a b : Known) : Type 0 where
  pub keeps : Keeps a b
  pub links : b.view.links ≡ a.view.links
  pub gives : b.view.gives ≡ v ∷ a.view.gives
  pub empty : b.view.held ≡ []
