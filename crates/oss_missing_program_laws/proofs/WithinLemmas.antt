-- The cells that sections name lie within their bases, and so within the cells of the program.
use Rattle.std.proofs.Common.{◌≡◌, ℕ, zero, suc, ◌+◌, ◌*◌, ◌/◌, ◌<◌, ◌≤◌, ℤ, pos, negsuc, ◌+ℤ◌, nat_abs, Bool, true, false, true≢false, List, [], ◌∷◌, ◌++◌, map, Option, Some, None, refl, sym, arith}
use Rattle.std.proofs.Math.Nat.{min-le_left, mul-le-mul_right}
use Rattle.std.proofs.lemmas.Nat.{div-add-mod'}
use Rattle.std.proofs.lemmas.Bool.Decides.{nat_tests}
use Rattle.std.specs.List.{range_with_len}
use Rattle.std.specs.Prelude.{◌==◌, ◌&&◌, ◌||◌, if◌then◌else◌, int_le, nat_le, nat_lt, Result, Ok, Err}
use Rattle.oss_syntax.specs.declared.access.Access.{Access}
use Rattle.oss_syntax.specs.declared.access.Range.{Range}
use Rattle.oss_syntax.specs.declared.fault.FaultKind.{FaultKind}
use Rattle.oss_syntax.specs.declared.fault.FaultKind.TheVariants as fault
use Rattle.oss_grammar.specs.SectionCells.{Base, Extent, Part, Stretch, all_columns, and_cells, cells_of_extent, cells_of_rows, grid_cells, is_empty, is_inside, is_negative_size, most_turns, place_cells, places_cells, stretch_cells, stretch_of}
use Rattle.oss_model.specs.Cells.{cell_range}
use Rattle.oss_model.specs.Context.{in_clauses}
use Rattle.oss_model.specs.Rights.{in_access}
use Rattle.oss_meaning.specs.declared.clauses.Declared.{Declared}
use Rattle.oss_meaning.specs.Sections.{cell_before, declared_on, longer_by, ranges_of}

-- Tests

le_is : (m n : ℕ) → nat_le m n ≡ true → m ≤ n
le_is m n h = grind (arith, nat_tests)

pub lt_is : (m n : ℕ) → nat_lt m n ≡ true → m < n
lt_is m n h = grind (arith, nat_tests)

first_true : (a b : Bool) → (a && b) ≡ true → a ≡ true
first_true true b h = refl
first_true false b h = h

pub second_true : (a b : Bool) → (a && b) ≡ true → b ≡ true
second_true true b h = h
second_true false b h = absurd (true≢false (sym h))

first_false : (a b : Bool) → (a || b) ≡ false → a ≡ false
first_false true b h = h
first_false false b h = refl

second_false : (a b : Bool) → (a || b) ≡ false → b ≡ false
second_false true b h = absurd (true≢false h)
second_false false b h = h

-- Lists of cells

-- each of these cells is one of the first so many
abbrev pub AreBelow : ℕ → List ℕ → Type 0
AreBelow n [] = Unit {0}
AreBelow n (c ∷ cells) = (c < n) × AreBelow n cells

pub below_both : (n : ℕ) (cells more : List ℕ) → AreBelow n cells → AreBelow n more → AreBelow n (cells ++ more)
below_both n [] more h k = k
below_both n (c ∷ cells) more h k = (h.0, below_both n cells more h.1 k)

range_below : (n first size : ℕ) → first + size ≤ n → AreBelow n (range_with_len first size)
range_below n first zero h = tt
range_below n first (suc size) h = (omega arith, range_below n (first + 1) size (omega arith))

rows_below : (n columns size first rows : ℕ) → first + rows * columns + size ≤ n + columns → AreBelow n (cells_of_rows columns size first rows)
rows_below n columns size first zero h = tt
rows_below n columns size first (suc more) h =
    below_both n (range_with_len first size) (cells_of_rows columns size (first + columns) more) (range_below n first size (omega arith))
    (rows_below n columns size (first + columns) more (omega arith))

-- they are, or it is a fault
abbrev pub AreFound : ℕ → Result (List ℕ) FaultKind → Type 0
AreFound n (Ok cells) = AreBelow n cells
AreFound n (Err kind) = Unit {0}

-- Sections

tested_below : (n : ℕ) (a b c : Bool) (cells : List ℕ) → (b ≡ false → c ≡ true → AreBelow n cells)
    → AreFound n (if a then Err fault.OutOfRange else if b then Ok [] else if c then Ok cells else Err fault.OutOfRange)
tested_below n true b c cells h = tt
tested_below n false true c cells h = tt
tested_below n false false true cells h = h refl refl
tested_below n false false false cells h = tt

-- a stretch that is not empty, and lies inside, ends there
ends_inside : (count : ℕ) (from size : ℤ) → int_le size (pos 0) ≡ false → (int_le (pos 0) from && int_le (from +ℤ size) (pos count)) ≡ true → nat_abs from + nat_abs size ≤ count
ends_inside count (pos a) (pos b) e h = le_is (a + b) count (second_true (int_le (pos 0) (pos a)) (nat_le (a + b) count) h)
ends_inside count (pos a) (negsuc b) e h = absurd (true≢false e)
ends_inside count (negsuc a) size e h = absurd (true≢false (sym h))

stretch_below : (n start count : ℕ) (s : Stretch) → start + count ≤ n → AreFound n (stretch_cells start count s)
stretch_below n start count s h =
    tested_below n (is_negative_size s) (is_empty s) (is_inside count s) (range_with_len (start + nat_abs s.from) (nat_abs s.size))
    (λ e f. let ends : nat_abs s.from + nat_abs s.size ≤ count = ends_inside count s.from s.size e f in range_below n (start + nat_abs s.from) (nat_abs s.size) (omega (arith, ends, h)))

grid_ends : (n start rows columns row down column across : ℕ) → start + rows * columns ≤ n → row + down ≤ rows → column + across ≤ columns
    → start + (row * columns + column) + down * columns + across ≤ n + columns
grid_ends n start rows columns row down column across fits low left = omega (arith, mul-le-mul_right columns low)

grid_below : (n start rows columns : ℕ) (r c : Stretch) → start + rows * columns ≤ n → AreFound n (grid_cells start rows columns r c)
grid_below n start rows columns r c h =
    tested_below n (is_negative_size r || is_negative_size c) (is_empty r || is_empty c) (is_inside rows r && is_inside columns c)
    (cells_of_rows columns (nat_abs c.size) (start + (nat_abs r.from * columns + nat_abs c.from)) (nat_abs r.size))
    (λ e f.
    let down = ends_inside rows r.from r.size (first_false (is_empty r) (is_empty c) e) (first_true (is_inside rows r) (is_inside columns c) f) in
    let across = ends_inside columns c.from c.size (second_false (is_empty r) (is_empty c) e) (second_true (is_inside rows r) (is_inside columns c) f) in
    rows_below n columns (nat_abs c.size) (start + (nat_abs r.from * columns + nat_abs c.from)) (nat_abs r.size)
    (grid_ends n start rows columns (nat_abs r.from) (nat_abs r.size) (nat_abs c.from) (nat_abs c.size) h down across))

-- the base lies within the first so many cells
abbrev pub IsBaseWithin : ℕ → Base → Type 0
IsBaseWithin n b = b.start + b.count ≤ n

-- so do its whole rows
rows_within : (n start count columns : ℕ) → start + count ≤ n → start + count / columns * columns ≤ n
rows_within n start count columns h = omega (arith, div-add-mod' count columns)

pub place_below : (n : ℕ) (b : Base) (columns : Option ℕ) (p : ℕ × Option ℕ) → IsBaseWithin n b → AreFound n (place_cells b columns p)
place_below n b None (i, None) h = stretch_below n b.start b.count (stretch_of b.count b.index (Part.elements i 1)) h
place_below n b None (i, Some j) h = tt
place_below n b (Some m) (i, None) h = grid_below n b.start (b.count / m) m (stretch_of (b.count / m) b.index (Part.elements i 1)) (all_columns m) (rows_within n b.start b.count m h)
place_below n b (Some m) (i, Some j) h =
    grid_below n b.start (b.count / m) m (stretch_of (b.count / m) b.index (Part.elements i 1)) (stretch_of m 0 (Part.elements j 1)) (rows_within n b.start b.count m h)

joined_below : (n : ℕ) (r s : Result (List ℕ) FaultKind) → AreFound n r → AreFound n s → AreFound n (and_cells r s)
joined_below n (Ok a) (Ok b) h k = below_both n a b h k
joined_below n (Ok a) (Err kind) h k = tt
joined_below n (Err kind) s h k = tt

places_below : (n : ℕ) (b : Base) (columns : Option ℕ) (ps : List (ℕ × Option ℕ)) → IsBaseWithin n b → AreFound n (places_cells b columns ps)
places_below n b columns [] h = tt
places_below n b columns (p ∷ ps) h = joined_below n (place_cells b columns p) (places_cells b columns ps) (place_below n b columns p h) (places_below n b columns ps h)

many_below : (n : ℕ) (t : Bool) (r : Result (List ℕ) FaultKind) → AreFound n r → AreFound n (if t then r else Err fault.OutOfRange)
many_below n true r h = h
many_below n false r h = tt

-- the cells of a section
pub extent_below : (n : ℕ) (b : Base) (columns : Option ℕ) (e : Extent) → IsBaseWithin n b → AreFound n (cells_of_extent b columns e)
extent_below n b columns Extent.whole h = range_below n b.start b.count h
extent_below n b columns (Extent.many turns places) h = many_below n (nat_le turns most_turns) (places_cells b columns places) (places_below n b columns places h)
extent_below n b None (Extent.part p) h = stretch_below n b.start b.count (stretch_of b.count b.index p) h
extent_below n b None (Extent.grid r c) h = tt
extent_below n b (Some m) (Extent.part r) h = grid_below n b.start (b.count / m) m (stretch_of (b.count / m) b.index r) (all_columns m) (rows_within n b.start b.count m h)
extent_below n b (Some m) (Extent.grid r c) h =
    grid_below n b.start (b.count / m) m (stretch_of (b.count / m) b.index r) (stretch_of m 0 c) (rows_within n b.start b.count m h)

-- Ranges and accesses

-- each of these ranges ends within the first so many cells
abbrev pub EndWithin : ℕ → List Range → Type 0
EndWithin n [] = Unit {0}
EndWithin n (r ∷ rest) = (r.hi ≤ n) × EndWithin n rest

one_within : (n c : ℕ) → c < n → (cell_range c).hi ≤ n
one_within n c h = omega (arith, min-le_left c 1048575)

before_within : (n c : ℕ) (rs : List Range) → c < n → EndWithin n rs → EndWithin n (cell_before c rs)
before_within n c [] h k = (one_within n c h, tt)
before_within n c (r ∷ rest) h k = by_place (r.lo == c + 1)
  where
    by_place : (b : Bool) → EndWithin n (if b then longer_by c r ∷ rest else cell_range c ∷ r ∷ rest)
    by_place true = (k.0, k.1)
    by_place false = (one_within n c h, k)

pub ranges_within : (n : ℕ) (cells : List ℕ) → AreBelow n cells → EndWithin n (ranges_of cells)
ranges_within n [] h = tt
ranges_within n (c ∷ rest) h = before_within n c (ranges_of rest) h.0 (ranges_within n rest h.1)

-- each of these accesses names cells of the first so many alone
abbrev pub NameWithin : ℕ → List Access → Type 0
NameWithin n [] = Unit {0}
NameWithin n (a ∷ rest) = (a.range.hi ≤ n) × NameWithin n rest

pub both_within : (n : ℕ) (some more : List Access) → NameWithin n some → NameWithin n more → NameWithin n (some ++ more)
both_within n [] more h k = k
both_within n (a ∷ some) more h k = (h.0, both_within n some more h.1 k)

pub declared_within : (n : ℕ) (d : Declared) (rs : List Range) → EndWithin n rs → NameWithin n (declared_on d rs)
declared_within n d [] h = tt
declared_within n d (r ∷ rest) h = (h.0, declared_within n d rest h.1)

-- the ranges of accesses
pub named_within : (n : ℕ) (clauses : List Access) → NameWithin n clauses → EndWithin n (map (λ a. a.range) clauses)
named_within n [] h = tt
named_within n (a ∷ rest) h = (h.0, named_within n rest h.1)

-- a cell that they name is one of those
pub cell_within : (n : ℕ) (clauses : List Access) (c : ℕ) → NameWithin n clauses → in_clauses clauses c ≡ true → c < n
cell_within n [] c h e = absurd (true≢false (sym e))
cell_within n (a ∷ rest) c h e = by_access (cell_within n rest c h.1) (in_access a c) refl e
  where
    by_access : (in_clauses rest c ≡ true → c < n) → (b : Bool) → in_access a c ≡ b → (b || in_clauses rest c) ≡ true → c < n
    by_access again true f g = omega (arith, lt_is c a.range.hi (second_true (nat_le a.range.lo c) (nat_lt c a.range.hi) f), h.0)
    by_access again false f g = again g
