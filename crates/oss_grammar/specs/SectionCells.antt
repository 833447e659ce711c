-- The cells that an array section names (OmpSs-2, array sections): the rising list of their numbers, or the fault OutOfRange.
-- Read against: with `long x, a[4];` the cells of `a[1;2]` are 2 and 3, those of `a[1:]` are 2, 3 and 4, and those of `a` are 1 to
-- 4; `a[9;0]` and `a[3:2]` name none; `a[3:1]`, `a[4]` and `a[3;-1]` are OutOfRange. With `long m[3][4];` the cells of `m[0:1][1;2]` are 1,
-- 2, 5 and 6, and those of `m[2]` are 8 to 11; `m[9;0][9;2]` names none; `m[0][4]`, `m[3][0;2]` and `m[9;0][0;-1]` are OutOfRange. The cells of
-- the multidependency `{ a[k * 2], k = 0; 2 }` are 1 and 3, and `{ a[k], k = 3; 2 }` is OutOfRange.
use Rattle.std.specs.Prelude.{ℕ, zero, suc, ◌+◌, ◌*◌, ◌-◌, ◌/◌, ◌^◌, ◌&&◌, ◌||◌, if◌then◌else◌, List, [], ◌∷◌, ◌++◌, ℤ, pos, ◌+ℤ◌, ◌-ℤ◌, neg_ℤ, nat_abs, int_lt, int_le, Bool, nat_le, Option, Some, None, option_map, Result, Ok, Err}
use Rattle.std.specs.List.{range_with_len}
use Rattle.oss_syntax.specs.declared.tree.expr.Expr.{Expr}
use Rattle.oss_syntax.specs.declared.tree.pragma.Form.{Form}
use Rattle.oss_syntax.specs.declared.tree.pragma.Form.TheVariants as form
use Rattle.oss_syntax.specs.declared.tree.pragma.Inner.{Inner}
use Rattle.oss_syntax.specs.declared.tree.pragma.Inner.TheVariants as inner
use Rattle.oss_grammar.specs.Values.{is_negative, sum_of}
use Rattle.oss_syntax.specs.declared.fault.FaultKind.{FaultKind}
use Rattle.oss_syntax.specs.declared.fault.FaultKind.TheVariants as fault

-- The base of a section: the first cell of its global and how many cells that has, how many of them make a row of an array of two
-- dimensions, and the index of the element to which the base points, as a number of 64 bits. An array points to its element 0; a
-- pointer that points nowhere has a global without cells. The base `m` of `long x, m[3][4];` has the start 1, 12 cells in rows of 4, and the
-- index 0.
pub record Base : Type 0 where
  pub start : ℕ
  pub count : ℕ
  pub columns : Option ℕ
  pub index : ℕ

-- What a section names of one dimension, its numbers evaluated: so many elements from one on, or the elements from one to another, both
-- included. `1;2` is `elements 1 2`, and `:2` is `span None (Some 2)`.
pub data Part : Type 0 where
  elements : (from count : ℕ) → Part
  span : (lower upper : Option ℕ) → Part

-- What a section names of its base: all of a global, a part of its elements or of its rows, a part of its rows and of its columns, or in
-- so many turns an element, a row or the element of a row each.
pub data Extent : Type 0 where
  whole : Extent
  part : (elements : Part) → Extent
  grid : (rows columns : Part) → Extent
  many : (turns : ℕ) (places : List (ℕ × Option ℕ)) → Extent

-- What one dimension of a section names, its expressions having these values: `[e]` is `[e;1]`.
abbrev pub part_of : (Expr → ℕ) → Inner → Part
part_of value (inner.Element e) = Part.elements (value e) 1
part_of value (inner.Length l n) = Part.elements (value l) (value n)
part_of value (inner.Span l u) = Part.span (option_map value l) (option_map value u)

abbrev pub or_zero : Option ℕ → ℕ
or_zero None = 0
or_zero (Some v) = v

-- The indices of a multidependency in so many turns from one on, its expressions having these values where its variable has this one.
abbrev pub places_of : (ℕ → Expr → ℕ) → Expr → Option Expr → ℕ → ℕ → List (ℕ × Option ℕ)
places_of value e f from zero = []
places_of value e f from (suc more) = (value from e, option_map (value from) f) ∷ places_of value e f (sum_of from 1) more

-- at most so many turns are made: of more, or of a negative number, none is
abbrev pub most_turns : ℕ
most_turns = 1048576

abbrev pub turns_made : ℕ → ℕ
turns_made turns = if nat_le turns most_turns then turns else 0

-- What a section of this form names of its base, its expressions having these values, and the indices of a multidependency those of each
-- of its turns: `*p` is `p[0;1]`, `[n]p` is `p[0;n]`, and `a[e]` is `a[e;1]`.
abbrev pub extent_of : (Expr → ℕ) → (ℕ → Expr → ℕ) → Form → Extent
extent_of value in_turn form.Whole = Extent.whole
extent_of value in_turn form.Deref = Extent.part (Part.elements 0 1)
extent_of value in_turn (form.Shape n) = Extent.part (Part.elements 0 (value n))
extent_of value in_turn (form.Element e) = Extent.part (Part.elements (value e) 1)
extent_of value in_turn (form.Length l n) = Extent.part (Part.elements (value l) (value n))
extent_of value in_turn (form.Span l u) = Extent.part (Part.span (option_map value l) (option_map value u))
extent_of value in_turn (form.Grid rows columns) = Extent.grid (part_of value rows) (part_of value columns)
extent_of value in_turn (form.Many e f turns) =
    Extent.many (value turns.count) (places_of in_turn e f (or_zero (option_map value turns.variable.first)) (turns_made (value turns.count)))

-- a number of 64 bits, read as signed
abbrev pub signed : ℕ → ℤ
signed v = if is_negative v then neg_ℤ (pos (2 ^ 64 - v)) else pos v

-- Where a part of a dimension begins and how long it is, exactly: `3:1` begins at 3 and has the length -1.
pub record Stretch : Type 0 where
  pub from : ℤ
  pub size : ℤ

-- an upper end that is left out is the last element of its dimension
abbrev pub last_of : ℕ → Option ℕ → ℤ
last_of count None = pos count -ℤ pos 1
last_of count (Some v) = signed v

-- The stretch of a part of a dimension with so many elements, seen from the element with this index: a pointer moves by a number of 64
-- bits and wraps, and lengths are exact.
abbrev pub stretch_of : ℕ → ℕ → Part → Stretch
stretch_of count index (Part.elements from size) = record { from = signed (sum_of index from); size = signed size }
stretch_of count index (Part.span lower upper) = record {
  from = signed (sum_of index (or_zero lower));
  size = (last_of count upper -ℤ signed (or_zero lower)) +ℤ pos 1;
}

-- its length is negative
abbrev pub is_negative_size : Stretch → Bool
is_negative_size s = int_lt s.size (pos 0)

-- it has no element, whatever it begins with
abbrev pub is_empty : Stretch → Bool
is_empty s = int_le s.size (pos 0)

-- each of its elements is one of so many
abbrev pub is_inside : ℕ → Stretch → Bool
is_inside count s = int_le (pos 0) s.from && int_le (s.from +ℤ s.size) (pos count)

-- the cells of a stretch of the elements of a base: none where the length is 0, whatever the element
abbrev pub stretch_cells : ℕ → ℕ → Stretch → Result (List ℕ) FaultKind
stretch_cells start count s =
    if is_negative_size s then Err fault.OutOfRange
    else if is_empty s then Ok []
    else if is_inside count s then Ok (range_with_len (start + nat_abs s.from) (nat_abs s.size))
    else Err fault.OutOfRange

-- The cells of so many rows, from the first cell that is named in the first of them on: in each row as many cells, and the next row begins
-- so many columns on. Two rows of 2 cells from cell 1 on, in rows of 4, are 1, 2, 5 and 6.
abbrev pub cells_of_rows : ℕ → ℕ → ℕ → ℕ → List ℕ
cells_of_rows columns size first zero = []
cells_of_rows columns size first (suc more) = range_with_len first size ++ cells_of_rows columns size (first + columns) more

-- The cells of a stretch of rows and one of columns, of an array with so many of each: a negative length of either is OutOfRange; else there
-- is none where a length is 0; else each row and each column is one of the array.
abbrev pub grid_cells : ℕ → ℕ → ℕ → Stretch → Stretch → Result (List ℕ) FaultKind
grid_cells start rows columns r c =
    if is_negative_size r || is_negative_size c then Err fault.OutOfRange
    else if is_empty r || is_empty c then Ok []
    else if is_inside rows r && is_inside columns c then Ok (cells_of_rows columns (nat_abs c.size) (start + (nat_abs r.from * columns + nat_abs c.from)) (nat_abs r.size))
    else Err fault.OutOfRange

-- all columns of an array with so many
abbrev pub all_columns : ℕ → Stretch
all_columns columns = record { from = pos 0; size = pos columns }

-- the cells of one and then those of another, or the first fault
abbrev pub and_cells : Result (List ℕ) FaultKind → Result (List ℕ) FaultKind → Result (List ℕ) FaultKind
and_cells (Ok cells) (Ok more) = Ok (cells ++ more)
and_cells (Ok cells) (Err kind) = Err kind
and_cells (Err kind) more = Err kind

-- The cells of one turn: an element of a base in no rows; of one in rows of so many cells a row, or an element of a row.
abbrev pub place_cells : Base → Option ℕ → ℕ × Option ℕ → Result (List ℕ) FaultKind
place_cells b None (i, None) = stretch_cells b.start b.count (stretch_of b.count b.index (Part.elements i 1))
place_cells b None (i, Some j) = Err fault.OutOfRange
place_cells b (Some m) (i, None) = grid_cells b.start (b.count / m) m (stretch_of (b.count / m) b.index (Part.elements i 1)) (all_columns m)
place_cells b (Some m) (i, Some j) = grid_cells b.start (b.count / m) m (stretch_of (b.count / m) b.index (Part.elements i 1)) (stretch_of m 0 (Part.elements j 1))

abbrev pub places_cells : Base → Option ℕ → List (ℕ × Option ℕ) → Result (List ℕ) FaultKind
places_cells b columns [] = Ok []
places_cells b columns (p ∷ ps) = and_cells (place_cells b columns p) (places_cells b columns ps)

-- The cells of a section of a base in rows of so many cells, or in none. Of an array of two dimensions one part names whole rows.
abbrev pub cells_of_extent : Base → Option ℕ → Extent → Result (List ℕ) FaultKind
cells_of_extent b columns Extent.whole = Ok (range_with_len b.start b.count)
cells_of_extent b columns (Extent.many turns places) = if nat_le turns most_turns then places_cells b columns places else Err fault.OutOfRange
cells_of_extent b None (Extent.part p) = stretch_cells b.start b.count (stretch_of b.count b.index p)
cells_of_extent b None (Extent.grid r c) = Err fault.OutOfRange
cells_of_extent b (Some m) (Extent.part r) = grid_cells b.start (b.count / m) m (stretch_of (b.count / m) b.index r) (all_columns m)
cells_of_extent b (Some m) (Extent.grid r c) = grid_cells b.start (b.count / m) m (stretch_of (b.count / m) b.index r) (stretch_of m 0 c)

-- the cells of a section
abbrev pub section_cells : Base → Extent → Result (List ℕ) FaultKind
section_cells b e = cells_of_extent b b.columns e
