-- Rows of entries, and when they may be filed: each may be linked behind those before it, whatever tasks they are of.
-- Read against: main has created the task 1 with the cells 4 and 5, which has created the task 4 with cell 5; then it has created the task 6 with
-- cell 4. The rows are 1 for the task 1, 2 for its cell 4 and 3 for its cell 5, 4 for the task 4 and 5 for its cell 5, 6 for the task 6 and 7 for
-- its cell 4. 1, 2 and 3 begin lists of main and have depth 1; 4 is the first child of 1 and 5 that of 3, of depth 2; 6 stands behind 1 and 7 behind
-- 2.
use Rattle.std.specs.Prelude.{◌≡◌, ◌⊎◌, ◌<◌, ◌≤◌, ◌+◌, ℕ, zero, suc, Bool, false, List, Option, Some, None, slice_get}
use Rattle.oss_syntax.specs.declared.access.Mode.TheVariants.{Write}
use Rattle.oss_words.specs.declared.entry.After.{After}
use Rattle.oss_words.specs.declared.entry.After.TheVariants.{FirstOf, FirstOfMain, Sibling}
use Rattle.oss_filing.specs.declared.row.Row.{Row}

-- The row of an entry's number; 0 stands for main and has none.
abbrev pub row_of : List Row → ℕ → Option Row
row_of rows zero = None
row_of rows (suc n) = slice_get rows n

-- It is given up.
abbrev pub given_in : Option Row → Bool
given_in None = false
given_in (Some r) = r.given

-- The entry hangs below p: it is its first child, or stands behind one that does.
pub data Under (rows : List Row) (p : ℕ) : ℕ → Type 0 where
  eldest : {v : ℕ} (r : Row) → row_of rows v ≡ Some r → r.after ≡ FirstOf p → Under rows p v
  younger : {u v : ℕ} (r : Row) → row_of rows v ≡ Some r → r.after ≡ Sibling u → Under rows p u → Under rows p v

-- No entry before v hangs there.
abbrev pub IsFirstAt : List Row → ℕ → After → Type 0
IsFirstAt rows v a = (u : ℕ) (y : Row) → u < v → row_of rows u ≡ Some y → y.after ≡ a → ⊥

-- The sibling behind which an entry stands: of the same parent, and before it.
pub record IsBehind (rows : List Row) (v : ℕ) (r : Row) (o : ℕ) : Type 0 where
  pub sibling : Row
  pub is : row_of rows o ≡ Some sibling
  pub before : o < v
  pub parent : sibling.info.parent ≡ r.info.parent
  pub under : (r.info.parent ≡ 0 → ⊥) → Under rows r.info.parent o

-- Where an entry stands.
abbrev pub IsPlaced : List Row → ℕ → Row → After → Type 0
IsPlaced rows v r FirstOfMain = r.info.parent ≡ 0
IsPlaced rows v r (FirstOf p) = (r.info.parent ≡ p) × (p ≡ 0 → ⊥)
IsPlaced rows v r (Sibling o) = IsBehind rows v r o

-- The entry above: it is one less deep, and its mode covers that of the entry.
pub record IsBelowRow (rows : List Row) (r : Row) : Type 0 where
  pub above : Row
  pub is : row_of rows r.info.parent ≡ Some above
  pub depth : r.info.depth ≡ 1 + above.info.depth
  pub covered : (above.info.mode ≡ Write) ⊎ (above.info.mode ≡ r.info.mode)

-- The entry of number v may be linked behind those before it.
pub record Fits (rows : List Row) (v : ℕ) (r : Row) : Type 0 where
  pub above : r.info.parent < v
  pub top : r.info.parent ≡ 0 → r.info.depth ≡ 1
  pub below : (r.info.parent ≡ 0 → ⊥) → IsBelowRow rows r
  pub shallow : r.info.depth ≤ 64
  pub task : r.info.task < 16777216
  pub placed : IsPlaced rows v r r.after
  pub first : (p : ℕ) → r.after ≡ FirstOf p → IsFirstAt rows v (FirstOf p)
  pub next : (o : ℕ) → r.after ≡ Sibling o → IsFirstAt rows v (Sibling o)

-- All of them may.
abbrev pub AreSound : List Row → Type 0
AreSound rows = (v : ℕ) (r : Row) → row_of rows v ≡ Some r → Fits rows v r
