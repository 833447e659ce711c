-- The accesses of a task, each cell once and in rising order.
-- Read against: a task that writes the cells 0 to 7 and has released 4 has two accesses, `0..4` and `5..8`. Of a task under
-- `out(0..8)` that has written the cells 0 to 3 they are `0..4`, and `4..8` with the flag that its cells are written first.
use Rattle.std.specs.Prelude.{◌≡◌, ℕ, ◌≤◌, ◌<◌, false, if◌then◌else◌, List, [], ◌∷◌, Option, Some, None}
use Rattle.oss_syntax.specs.declared.access.Access.{Access}
use Rattle.oss_syntax.specs.declared.access.Mode.TheVariants.{Write}
use Rattle.oss_model.specs.Rights.{Right, NoRight, Holds, Mark, Written, first_mark, in_access, is_fresh, right_from}

-- The right, where the task still has one.
abbrev pub held_right : Right → Right
held_right (Holds mode strong) = Holds mode strong
held_right _ = NoRight

-- The mark of a cell, where the task has a right to write it.
abbrev pub held_mark : Right → Mark → Mark
held_mark (Holds Write strong) mark = mark
held_mark _ mark = Written

-- The second access goes on where the first ends, alike.
abbrev pub Continues : Access → Access → Type 0
Continues a b = (a.range.hi ≡ b.range.lo) × (a.mode ≡ b.mode) × (a.strong ≡ b.strong) × (a.fresh ≡ b.fresh)

-- One access stands behind another, and the two are not parts of one.
pub record Follows (a b : Access) : Type 0 where
  pub behind : a.range.hi ≤ b.range.lo
  pub apart : Continues a b → ⊥

-- Each access follows the one before it.
abbrev pub IsRising : List Access → Type 0
IsRising [] = Unit {0}
IsRising (a ∷ []) = Unit {0}
IsRising (a ∷ b ∷ rest) = Follows a b × IsRising (b ∷ rest)

-- No access names this cell, or one behind it.
abbrev pub IsBelow : ℕ → List Access → Type 0
IsBelow cell [] = Unit {0}
IsBelow cell (a ∷ rest) = (a.range.hi ≤ cell) × IsBelow cell rest

-- Accesses give the right and the mark of one access more, which stands behind all others.
pub record Adds (a : Access) (old new : List Access) : Type 0 where
  pub rights : (c : ℕ) → right_from false new c ≡ (if in_access a c then Holds a.mode a.strong else right_from false old c)
  pub marks : (c : ℕ) → is_fresh new c ≡ (if in_access a c then a.fresh else is_fresh old c)
  pub below : IsBelow a.range.hi new
  pub rising : IsRising new

-- An access gives the right and the mark of a cell.
abbrev pub IsTold : Access → Right → Mark → Type 0
IsTold a right mark = (held_right right ≡ Holds a.mode a.strong) × (first_mark (Holds a.mode a.strong) a.fresh ≡ held_mark right mark)

-- The cells from one up to another have one access, or the task has no right to them.
abbrev pub IsRun : (ℕ → Right) → (ℕ → Mark) → ℕ → ℕ → Option Access → Type 0
IsRun own marked from to None = (c : ℕ) → from ≤ c → c < to → held_right (own c) ≡ NoRight
IsRun own marked from to (Some a) = (a.range.lo ≡ from) × (a.range.hi ≡ to) × ((c : ℕ) → from ≤ c → c < to → IsTold a (own c) (marked c))
