-- Maps from cells, kept as pieces: neighbouring cells that have one value.
-- Read against: the pieces `0..2 a`, `2..5 a`, `7..8 b` give a to the cells 0 to 4 and b to 7; they are cut at 2.
use Rattle.std.specs.Prelude.{◌≡◌, ◌≤◌, ◌<◌, ◌⊎◌, ◌==◌, ℕ, Bool, false, ◌&&◌, nat_le, nat_lt, max, min, if◌then◌else◌, List, [], ◌∷◌, Option, Some, None}
use Rattle.oss_ranges.specs.declared.piece.Piece.{Piece}

-- whether a piece has a cell
abbrev pub holds : {T : Type 0} → Piece T → ℕ → Bool
holds p cell = nat_le p.lo cell && nat_lt cell p.hi

-- the value of a cell: that of its piece, if it has one
abbrev pub value_at : {T : Type 0} → List (Piece T) → ℕ → Option T
value_at [] cell = None
value_at (p ∷ rest) cell = if holds p cell then Some p.value else value_at rest cell

-- the pieces lie between two cells one behind the other, and each has a cell
abbrev pub Rises : {T : Type 0} → ℕ → List (Piece T) → ℕ → Type 0
Rises from [] to = from ≤ to
Rises from (p ∷ rest) to = (from ≤ p.lo) × (p.lo < p.hi) × Rises p.hi rest to

-- the first piece that ends behind a cell
abbrev pub next_of : {T : Type 0} → ℕ → List (Piece T) → Option (Piece T)
next_of cell [] = None
next_of cell (p ∷ rest) = if nat_lt cell p.hi then Some p else next_of cell rest

-- the pieces with one more, in front of the first that begins behind it
abbrev pub inserted : {T : Type 0} → Piece T → List (Piece T) → List (Piece T)
inserted p [] = p ∷ []
inserted p (q ∷ rest) = if nat_lt p.lo q.lo then p ∷ q ∷ rest else q ∷ inserted p rest

-- the pieces without the first that ends behind a cell
abbrev pub removed : {T : Type 0} → ℕ → List (Piece T) → List (Piece T)
removed cell [] = []
removed cell (p ∷ rest) = if nat_lt cell p.hi then rest else p ∷ removed cell rest

-- What contracts see of a range map: its pieces, and for how many more it holds room in reserve.
pub record Kept (T : Type 0) : Type 0 where
  pub pieces : List (Piece T)
  pub spares : ℕ

-- a cell is one of those from `lo` up to `hi`
abbrev pub is_within : ℕ → ℕ → ℕ → Bool
is_within lo hi cell = nat_le lo cell && nat_lt cell hi

-- the cells of a range get this value, and no other cell changes
abbrev pub Assigns : {T : Type 0} → ℕ → ℕ → Option T → List (Piece T) → List (Piece T) → Type 0
Assigns lo hi value old new = (cell : ℕ) → value_at new cell ≡ (if is_within lo hi cell then value else value_at old cell)

-- no cell changes its value
abbrev pub SameMap : {T : Type 0} → List (Piece T) → List (Piece T) → Type 0
SameMap old new = (cell : ℕ) → value_at new cell ≡ value_at old cell

-- no piece has cells on both sides of this one's front
abbrev pub IsCut : {T : Type 0} → ℕ → List (Piece T) → Type 0
IsCut cell [] = Unit {0}
IsCut cell (p ∷ rest) = ((cell ≤ p.lo) ⊎ (p.hi ≤ cell)) × IsCut cell rest

-- the pieces are cut at this cell, and where they were cut before
abbrev pub Cuts : {T : Type 0} → ℕ → List (Piece T) → List (Piece T) → Type 0
Cuts cell old new = IsCut cell new × ((other : ℕ) → IsCut other old → IsCut other new)

-- they are cut at the ends of a range, and where they were cut outside of it
abbrev pub CutsAround : {T : Type 0} → ℕ → ℕ → List (Piece T) → List (Piece T) → Type 0
CutsAround lo hi old new = IsCut lo new × IsCut hi new × ((other : ℕ) → (other ≤ lo) ⊎ (hi ≤ other) → IsCut other old → IsCut other new)

-- A piece begins or ends at this cell: the edges of `2..5 a`, `7..8 b` are 2, 5, 7 and 8.
abbrev pub IsEdge : {T : Type 0} → ℕ → List (Piece T) → Type 0
IsEdge cell [] = ⊥
IsEdge cell (p ∷ rest) = (cell ≡ p.lo) ⊎ (cell ≡ p.hi) ⊎ IsEdge cell rest

-- No edge is new but these two cells: `2..5 a` in two at 4 has the new edge 4 alone.
abbrev pub EdgesFrom : {T : Type 0} → ℕ → ℕ → List (Piece T) → List (Piece T) → Type 0
EdgesFrom lo hi old new = (cell : ℕ) → IsEdge cell new → (cell ≡ lo) ⊎ (cell ≡ hi) ⊎ IsEdge cell old

-- the piece that has a cell and those before it, in two at the cell
abbrev pub cut_at : {T : Type 0} → ℕ → List (Piece T) → List (Piece T)
cut_at cell [] = []
cut_at cell (p ∷ rest) =
    if nat_lt cell p.hi then
    (if nat_lt p.lo cell then record p { hi = cell } ∷ record p { lo = cell } ∷ rest else p ∷ rest)
    else p ∷ cut_at cell rest

-- the pieces that have no cell of a range
abbrev pub outside : {T : Type 0} → ℕ → ℕ → List (Piece T) → List (Piece T)
outside lo hi [] = []
outside lo hi (p ∷ rest) = if nat_lt lo p.hi && nat_lt p.lo hi then outside lo hi rest else p ∷ outside lo hi rest

-- the pieces without the cells of a range: those that go over its ends are cut there
abbrev pub emptied : {T : Type 0} → ℕ → ℕ → List (Piece T) → List (Piece T)
emptied lo hi pieces = outside lo hi (cut_at hi (cut_at lo pieces))

-- what the first piece that ends behind a cell tells of it: it has the cell, or begins behind it
abbrev pub told_by : {T : Type 0} → Piece T → ℕ → Option T
told_by p cell = if nat_le p.lo cell then Some p.value else None

abbrev pub is_before : {T : Type 0} → Option (Piece T) → ℕ → Bool
is_before None cell = false
is_before (Some p) cell = nat_lt p.lo cell

-- the parts of the pieces that lie from one cell up to another
abbrev pub clipped : {T : Type 0} → ℕ → ℕ → List (Piece T) → List (Piece T)
clipped from to [] = []
clipped from to (p ∷ rest) =
    if nat_lt (max p.lo from) (min p.hi to) then record { lo = max p.lo from; hi = min p.hi to; value = p.value } ∷ clipped from to rest else clipped from to rest

-- the map on a range: its cells have the values that they had, and no other cell has one
abbrev pub Restricts : {T : Type 0} → ℕ → ℕ → List (Piece T) → List (Piece T) → Type 0
Restricts lo hi all part = (cell : ℕ) → value_at part cell ≡ (if is_within lo hi cell then value_at all cell else None)

-- two pieces that touch at a cell and have one value are one piece; the test says which values are one
abbrev pub union_of : {T : Type 0} → (T → T → Bool) → ℕ → Option (Piece T) → Option (Piece T) → Option (Piece T)
union_of same cell (Some front) (Some back) = if (front.hi == cell && back.lo == cell) && same front.value back.value then Some (record front { hi = back.hi }) else None
union_of same cell _ _ = None

abbrev pub front_joined : {T : Type 0} → Option (Piece T) → Piece T → List (Piece T) → List (Piece T) → List (Piece T)
front_joined (Some whole) p (q ∷ others) more = whole ∷ others
front_joined _ p rest more = p ∷ more

abbrev pub first_of : {T : Type 0} → List (Piece T) → Option (Piece T)
first_of [] = None
first_of (p ∷ rest) = Some p

-- pieces with those joined that touch at a cell
abbrev pub joined_at : {T : Type 0} → (T → T → Bool) → ℕ → List (Piece T) → List (Piece T)
joined_at same cell [] = []
joined_at same cell (p ∷ rest) = front_joined (union_of same cell (Some p) (first_of rest)) p rest (joined_at same cell rest)

-- a piece does not touch the next one, or has another value
abbrev pub IsApart : {T : Type 0} → (T → T → Bool) → Piece T → List (Piece T) → Type 0
IsApart same p [] = Unit {0}
IsApart same p (q ∷ rest) = p.hi ≡ q.lo → same p.value q.value ≡ false

-- no two pieces touch that have one value
abbrev pub IsMerged : {T : Type 0} → (T → T → Bool) → List (Piece T) → Type 0
IsMerged same [] = Unit {0}
IsMerged same (p ∷ rest) = IsApart same p rest × IsMerged same rest

-- a piece has the cells from `lo` up to `hi`, and no others
abbrev pub IsExactly : {T : Type 0} → ℕ → ℕ → Option (Piece T) → Type 0
IsExactly lo hi None = ⊥
IsExactly lo hi (Some p) = (p.lo ≡ lo) × (p.hi ≡ hi)

-- a piece begins at this cell
abbrev pub Begins : {T : Type 0} → ℕ → Option (Piece T) → Type 0
Begins lo None = ⊥
Begins lo (Some p) = p.lo ≡ lo

-- The part of a piece before a range that the piece begins before and ends with: of `2..8 a` before `5..8` it is `2..5 a`.
abbrev pub front_of : {T : Type 0} → ℕ → ℕ → Option (Piece T) → Option (Piece T)
front_of lo hi None = None
front_of lo hi (Some p) = if nat_lt p.lo lo && p.hi == hi then Some (record p { hi = lo }) else None
