-- Tables of what a task keeps of its cells, by ranges.
use Rattle.std.specs.Prelude.{◌≡◌, ◌≤◌, ◌⊎◌, ◌||◌, ℕ, Bool, true, false, if◌then◌else◌, List, [], ◌∷◌, Option, Some}
use Rattle.oss_syntax.specs.declared.access.Access.{Access}
use Rattle.oss_syntax.specs.declared.access.Range.{Range}
use Rattle.oss_model.specs.Rights.{in_access}
use Rattle.oss_ranges.specs.declared.piece.Piece.{Piece}
use Rattle.oss_ranges.specs.Cells.{is_within, value_at}
use Rattle.oss_span.specs.declared.best.Best.{Best}
use Rattle.oss_span.specs.declared.best.Mark.{Mark}
use Rattle.oss_span.specs.declared.marks.Marks.{Marks}
use Rattle.oss_span.specs.declared.marks.Change.{Change}
use Rattle.oss_span.specs.declared.marks.Change.TheVariants.{Release}
use Rattle.oss_span.specs.declared.marks.Way.{Way}
use Rattle.oss_span.specs.Bests.{no_best}
use Rattle.oss_span.specs.Changes.{changed_at, opened, picked}

-- Each cell of the range of which something is kept is changed so, and the others are as they were.
abbrev pub AreChanged : Range → Change → List (Piece Marks) → List (Piece Marks) → Type 0
AreChanged range change old new = (c : ℕ) → value_at new c ≡ (if is_within range.lo range.hi c then changed_at change (value_at old c) else value_at old c)

-- Of each cell of the access is kept what the creator gives to it, and the others are as they were.
abbrev pub AreOpened : Access → List (Piece Marks) → List (Piece Marks) → List (Piece Marks) → Type 0
AreOpened access creator old new = (c : ℕ) → value_at new c ≡ (if is_within access.range.lo access.range.hi c then Some (opened (value_at creator c) access.mode access.strong) else value_at old c)

-- What is kept of a cell after each access was opened over what the creator keeps of it, the last one last.
abbrev pub painted : Option Marks → List Access → ℕ → Option Marks → Option Marks
painted creator [] c old = old
painted creator (a ∷ rest) c old = painted creator rest c (if in_access a c then Some (opened creator a.mode a.strong) else old)

-- What is kept of a cell after a release of these accesses.
abbrev pub released : Mark → List Access → ℕ → Option Marks → Option Marks
released mark [] c old = old
released mark (a ∷ rest) c old = released mark rest c (if in_access a c then changed_at (Release mark) old else old)

-- The longest of the chains of the cells of a range: none has more ticks, and it is that of one of them, or none.
pub record IsGreatest (way : Way) (pieces : List (Piece Marks)) (lo hi : ℕ) (best : Best) : Type 0 where
  pub most : (c : ℕ) (m : Marks) → is_within lo hi c ≡ true → value_at pieces c ≡ Some m → (picked way m).ticks ≤ best.mark.ticks
  pub one : (best ≡ no_best) ⊎ ((c : ℕ) × (m : Marks) × (is_within lo hi c ≡ true) × (value_at pieces c ≡ Some m) × (best ≡ record { mark = picked way m; cell = c }))

-- The cell is one of several ranges.
abbrev pub in_ranges : List Range → ℕ → Bool
in_ranges [] c = false
in_ranges (r ∷ rest) c = is_within r.lo r.hi c || in_ranges rest c

pub record IsGreatestOf (way : Way) (pieces : List (Piece Marks)) (ranges : List Range) (best : Best) : Type 0 where
  pub most : (c : ℕ) (m : Marks) → in_ranges ranges c ≡ true → value_at pieces c ≡ Some m → (picked way m).ticks ≤ best.mark.ticks
  pub one : (best ≡ no_best) ⊎ ((c : ℕ) × (m : Marks) × (in_ranges ranges c ≡ true) × (value_at pieces c ≡ Some m) × (best ≡ record { mark = picked way m; cell = c }))
