-- What the seat of a net knows of the entries of a book.
-- Read against: the entries 1 to 4 of `Ledger`, all linked, of which 3 is given up: the view of the seat owns 0 to 4 and more, has the links
-- of 1 to 4, each at its place, and the give of 3; it was told the infos of 1 to 4, and holds nothing.
use Rattle.std.specs.Prelude.{◌≡◌, ℕ, ◌<◌, ◌≤◌, true, List, [], ◌∷◌, Some, length}
use Rattle.oss_words.specs.Net.{Place}
use Rattle.oss_words.specs.Views.{Among}
use Rattle.oss_word_net.specs.Calls.{place_of}
use Rattle.oss_word_net.specs.Known.{Known, Told}
use Rattle.oss_word_deps.specs.declared.entry.Entry.{Entry}
use Rattle.oss_word_deps.specs.declared.entry.Mark.{Mark}
use Rattle.oss_word_deps.specs.Ledger.{Ledger, entry_of, mark_of}

-- The link of this entry, where it was linked.
pub record IsLinkOf (entries : List Entry) (n v : ℕ) (p : Place) : Type 0 where
  pub entry : Entry
  pub is : entry_of entries v ≡ Some entry
  pub within : v ≤ n
  pub place : p ≡ place_of entry.after

-- The seat has linked the first n entries and no other, and knows their infos.
pub record HasLinked (k : Known) (entries : List Entry) (n : ℕ) : Type 0 where
  pub linked : (v : ℕ) (e : Entry) → v ≤ n → entry_of entries v ≡ Some e → Among (record { entry = v; place = place_of e.after }) k.view.links
  pub links : (v : ℕ) (p : Place) → Among (record { entry = v; place = p }) k.view.links → IsLinkOf entries n v p
  pub told : (v : ℕ) (e : Entry) → v ≤ n → entry_of entries v ≡ Some e → Among (record { entry = v; info = e.info }) k.told

-- Of the first n it has given up those that are marked so, and no other entry.
pub record HasGiven (k : Known) (marks : List Mark) (n : ℕ) : Type 0 where
  pub gives : (v : ℕ) → Among v k.view.gives → ((mark_of marks v).given ≡ true) × (v ≤ n)
  pub given : (v : ℕ) → v ≤ n → (mark_of marks v).given ≡ true → Among v k.view.gives

-- It has the whole net, and every entry of it.
pub record IsAlone (k : Known) (size : ℕ) : Type 0 where
  pub size_is : k.entries ≡ size
  pub owned : (v : ℕ) → v < size → Among v k.view.owned
  pub parts : k.view.parts ≡ 65537

-- All that the book has is in the net, and nothing is on its way.
pub record Follows (k : Known) (size : ℕ) (l : Ledger) : Type 0 where
  pub alone : IsAlone k size
  pub empty : k.view.held ≡ []
  pub linked : HasLinked k l.entries (length l.entries)
  pub given : HasGiven k l.marks (length l.marks)
  pub within : length l.entries < size
  pub most : size ≤ 16777216

-- A net with its one seat, as its calls name it.
pub record Owned : Type 0 where
  pub known : Known
  pub size : ℕ

-- Nothing is linked and nothing given up.
pub record IsBare (k : Known) : Type 0 where
  pub links : k.view.links ≡ []
  pub gives : k.view.gives ≡ []

-- What is kept of what a seat knew: the entries that it owns, the size of the net, and what it was told.
pub record Keeps (a b : Known) : Type 0 where
  pub entries : b.entries ≡ a.entries
  pub owned : b.view.owned ≡ a.view.owned
  pub parts : b.view.parts ≡ a.view.parts
  pub told : (t : Told) → Among t a.told → Among t b.told

-- All messages were delivered.
pub record Settles (a b : Known) : Type 0 where
  pub keeps : Keeps a b
  pub links : b.view.links ≡ a.view.links
  pub gives : b.view.gives ≡ a.view.gives
  pub empty : b.view.held ≡ []

-- An entry was linked.
pub record Adds (v : ℕ) (e : Entry) (a b : Known) : Type 0 where
  pub keeps : Keeps a b
  pub links : b.view.links ≡ record { entry = v; place = place_of e.after } ∷ a.view.links
  pub gives : b.view.gives ≡ a.view.gives
  pub told : Among (record { entry = v; info = e.info }) b.told
  pub empty : b.view.held ≡ []

-- An entry was given up.
pub record Frees (v : ℕ) (a b : Known) : Type 0 where
  pub keeps : Keeps a b
  pub links : b.view.links ≡ a.view.links
  pub gives : b.view.gives ≡ v ∷ a.view.gives
  pub empty : b.view.held ≡ []

-- An entry was looked at.
pub record Looks (a b : Known) : Type 0 where
  pub keeps : Keeps a b
  pub links : b.view.links ≡ a.view.links
  pub gives : b.view.gives ≡ a.view.gives
  pub empty : b.view.held ≡ []
