-- Labels in a list, by the instructions with which the bodies of their tasks begin.
-- Read against: in the list of `relax` at 14 and `sum` at 40 the label at 40 is `sum`, and at 15 there is none; one entry stands before 15.
use Rattle.std.specs.Prelude.{◌≡◌, ◌⊎◌, ◌≤◌, ◌<◌, ◌==◌, ℕ, ◌+◌, if◌then◌else◌, List, [], ◌∷◌, length, Option, Some, None, slice_get}
use Rattle.oss_labels.specs.declared.labels.Labelled.{Labelled}

-- The list has this label at this entry.
abbrev pub HasLabel : List Labelled → ℕ → List ℕ → Type 0
HasLabel [] entry text = ⊥
HasLabel (l ∷ rest) entry text = ((l.entry ≡ entry) × (l.label ≡ text)) ⊎ HasLabel rest entry text

-- the label at an entry
abbrev pub label_at : List Labelled → ℕ → Option (List ℕ)
label_at [] entry = None
label_at (l ∷ rest) entry = if l.entry == entry then Some l.label else label_at rest entry

-- the entries rise, from this one on
abbrev pub Rise : ℕ → List Labelled → Type 0
Rise from [] = Unit {0}
Rise from (l ∷ rest) = (from ≤ l.entry) × Rise (l.entry + 1) rest

-- So many of the labels, and no more, have an entry before this one.
pub record IsCut (ls : List Labelled) (entry at : ℕ) : Type 0 where
  pub within : at ≤ length ls
  pub before : (k : ℕ) (l : Labelled) → slice_get ls k ≡ Some l → k < at → l.entry < entry
  pub behind : (k : ℕ) (l : Labelled) → slice_get ls k ≡ Some l → at ≤ k → entry ≤ l.entry
