-- A table is copied row by row, without the spent accesses.
-- Read against: the table of `Remainder`. Up to row 3, the copy has main alone; the places are 0, 0, 0 and the owners 0, 0, 1, since access 2 hangs in the list of access 1. Row 3
-- becomes row 1 of the copy, so the places are 0, 0, 0, 1 then, and row 4 becomes row 2.
use Rattle.std.specs.Prelude.{◌≡◌, ℕ, ◌<◌, false, true, List, Some, length, slice_get}
use Rattle.std.proofs.Math.ListN.{get_or}
use Rattle.oss_access_lists.specs.declared.hang.Hang.{Hang}
use Rattle.oss_access_lists.specs.declared.marks.Marks.{Marks}
use Rattle.oss_access_lists.specs.Tables.{hang_at, marks_at, wires_of}
use Rattle.oss_access_lists.specs.Wires.{IsBelow}
use Rattle.oss_retire.specs.Remainder.{is_spent}

-- The number that stands for an access; 0 past the last.
abbrev pub at_ : List ℕ → ℕ → ℕ
at_ numbers v = get_or numbers v 0

-- The row v is an access that is kept.
pub record IsKept (stand : List Marks) (upto v : ℕ) : Type 0 where
  pub within : v < upto
  pub not_main : v ≡ 0 → ⊥
  pub not_spent : is_spent (marks_at stand v) ≡ false

-- The access v has its place in the copy, in the list of the place of its owner.
pub record IsCopied (hangs : List Hang) (numbers : List ℕ) (less : List Hang) (fewer places owners : List ℕ) (v : ℕ) : Type 0 where
  pub not_main : at_ places v ≡ 0 → ⊥
  pub within : at_ places v < length less
  pub number : slice_get fewer (at_ places v) ≡ slice_get numbers v
  pub below : IsBelow (wires_of less).place (at_ places (at_ owners v)) (at_ places v)
  pub mode : (hang_at less (at_ places v)).mode ≡ (hang_at hangs v).mode

-- The rows below one are copied: each has an owner, those that are kept have a place, and nothing else has one; the places rise.
pub record AreCopied (hangs : List Hang) (stand : List Marks) (numbers : List ℕ) (upto : ℕ) (less : List Hang) (fewer places owners : List ℕ) : Type 0 where
  pub placed : length places ≡ upto
  pub owned : length owners ≡ upto
  pub size : length fewer ≡ length less
  pub main : slice_get fewer 0 ≡ Some 0
  pub main_place : at_ places 0 ≡ 0
  pub owner : (v : ℕ) → v < upto → (v ≡ 0 → ⊥) → IsBelow (wires_of hangs).place (at_ owners v) v
  pub kept : (v : ℕ) → IsKept stand upto v → IsCopied hangs numbers less fewer places owners v
  pub none : (v : ℕ) → v < upto → is_spent (marks_at stand v) ≡ true → at_ places v ≡ 0
  pub only : (j : ℕ) → j < length less → (j ≡ 0 → ⊥) → (v : ℕ) × IsKept stand upto v × (at_ places v ≡ j)
  pub rising : (u v : ℕ) → u < v → IsKept stand upto u → IsKept stand upto v → at_ places u < at_ places v

-- Nothing is given up in the copy as yet.
abbrev pub AreHolding : List Hang → Type 0
AreHolding less = (j : ℕ) → (hang_at less j).gave ≡ false

-- What is given up in the rows below one is given up in the copy, and nothing else.
pub record AreGivenUp (hangs : List Hang) (stand : List Marks) (all upto : ℕ) (less : List Hang) (places : List ℕ) : Type 0 where
  pub done : (v : ℕ) → IsKept stand all v → v < upto → (hang_at less (at_ places v)).gave ≡ (hang_at hangs v).gave
  pub rest : (v : ℕ) → IsKept stand all v → (v < upto → ⊥) → (hang_at less (at_ places v)).gave ≡ false
