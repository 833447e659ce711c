-- What no step takes back: a flag that stands and a link that is set.
-- Read against: the word of 2 of `Views` before the give of 1 has no flag; after three deliveries it has reads, writes and clear, in
-- whatever order they came, and each word between is grown from those before it.
use Rattle.std.specs.Prelude.{◌≡◌, ℕ, true}
use Rattle.oss_words.specs.declared.entry.EntryState.{EntryState}

-- The second word has each flag and each link of the first.
pub record Grown (a c : EntryState) : Type 0 where
  pub reads : a.reads ≡ true → c.reads ≡ true
  pub folds : a.folds ≡ true → c.folds ≡ true
  pub writes : a.writes ≡ true → c.writes ≡ true
  pub given : a.given ≡ true → c.given ≡ true
  pub done : a.done ≡ true → c.done ≡ true
  pub clear : a.clear ≡ true → c.clear ≡ true
  pub left : a.left ≡ true → c.left ≡ true
  pub linked : a.linked ≡ true → c.linked ≡ true
  pub next : a.linked ≡ true → c.next ≡ a.next
  pub headed : a.headed ≡ true → c.headed ≡ true
  pub child : a.headed ≡ true → c.child ≡ a.child
