-- What holds of the entries of a book, whatever tasks they are of: each may be linked into a net behind those before it.
-- Read against: the entries 1 to 4 of `Ledger`. 1 and 2 begin lists of main and have depth 1; 3 is the first child of 1 and has depth 2; 4
-- stands behind 1, is of main too, and has depth 1. No entry before 4 stands behind 1, and none before 3 is a first child of 1.
use Rattle.std.specs.Prelude.{◌≡◌, ℕ, ◌<◌, ◌≤◌, ◌+◌, true, List, Some, length}
use Rattle.oss_model.specs.Rights.{covers}
use Rattle.oss_words.specs.declared.entry.After.{After}
use Rattle.oss_words.specs.declared.entry.After.TheVariants.{FirstOf, FirstOfMain, Sibling}
use Rattle.oss_word_deps.specs.declared.entry.Entry.{Entry}
use Rattle.oss_word_deps.specs.Ledger.{Ledger, entry_of}

-- The entry hangs below p: it is its first child, or stands behind one that does.
pub data Under (entries : List Entry) (p : ℕ) : ℕ → Type 0 where
  eldest : {v : ℕ} (e : Entry) → entry_of entries v ≡ Some e → e.after ≡ FirstOf p → Under entries p v
  younger : {u v : ℕ} (e : Entry) → entry_of entries v ≡ Some e → e.after ≡ Sibling u → Under entries p u → Under entries p v

-- No entry before v hangs there.
abbrev pub IsFirstAt : List Entry → ℕ → After → Type 0
IsFirstAt entries v a = (u : ℕ) (y : Entry) → u < v → entry_of entries u ≡ Some y → y.after ≡ a → ⊥

-- The sibling behind which an entry stands: of the same parent, depth and cell, and before it.
pub record IsBehind (entries : List Entry) (v : ℕ) (e : Entry) (o : ℕ) : Type 0 where
  pub sibling : Entry
  pub is : entry_of entries o ≡ Some sibling
  pub before : o < v
  pub parent : sibling.info.parent ≡ e.info.parent
  pub cell : sibling.cell ≡ e.cell
  pub under : (e.info.parent ≡ 0 → ⊥) → Under entries e.info.parent o

-- Where an entry stands.
abbrev pub IsPlaced : List Entry → ℕ → Entry → After → Type 0
IsPlaced entries v e FirstOfMain = e.info.parent ≡ 0
IsPlaced entries v e (FirstOf p) = (e.info.parent ≡ p) × (p ≡ 0 → ⊥)
IsPlaced entries v e (Sibling o) = IsBehind entries v e o

-- The entry above, of the same cell: it is one less deep, and its mode covers that of the entry.
pub record IsBelowEntry (entries : List Entry) (e : Entry) : Type 0 where
  pub above : Entry
  pub is : entry_of entries e.info.parent ≡ Some above
  pub depth : e.info.depth ≡ 1 + above.info.depth
  pub cell : above.cell ≡ e.cell
  pub covered : covers above.info.mode e.info.mode ≡ true

-- The entry of number v may be linked behind those before it.
pub record Fits (entries : List Entry) (v : ℕ) (e : Entry) : Type 0 where
  pub above : e.info.parent < v
  pub top : e.info.parent ≡ 0 → e.info.depth ≡ 1
  pub below : (e.info.parent ≡ 0 → ⊥) → IsBelowEntry entries e
  pub shallow : e.info.depth ≤ 64
  pub task : e.info.task < 16777216
  pub placed : IsPlaced entries v e e.after
  pub first : (p : ℕ) → e.after ≡ FirstOf p → IsFirstAt entries v (FirstOf p)
  pub next : (o : ℕ) → e.after ≡ Sibling o → IsFirstAt entries v (Sibling o)

-- All of them may, each has a mark, there are fewer than the net has, and main's list has a last one, or none, for each cell.
pub record IsSound (l : Ledger) : Type 0 where
  pub fits : (v : ℕ) (e : Entry) → entry_of l.entries v ≡ Some e → Fits l.entries v e
  pub marks : length l.marks ≡ length l.entries
  pub mains : length l.mains ≡ 1048576
