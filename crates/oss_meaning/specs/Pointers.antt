-- Pointers and the cells to which they point (C11 6.5.2.1, 6.5.6): a pointer is a global and an index of 64 bits, which moves modulo
-- 2^64; it points to a cell only while the index is one of the global's.
-- Read against: with `long x, a[3], m[2][4];` the pointer to `a` less 1 points to no cell, and 2 more make it the pointer to `a[1]`, which
-- is cell 2; row 1 of `m` begins at cell 8; `m[1][4]` and `m[-1][0]` point nowhere.
use Rattle.std.specs.Prelude.{ℕ, ◌+◌, ◌-◌, ◌/◌, ◌^◌, ◌&&◌, if◌then◌else◌, List, [], ◌∷◌, ℤ, pos, int_lt, int_le, nat_abs, Bool, true, false, Option, Some, None, slice_get}
use Rattle.oss_syntax.specs.declared.tree.program.Item.{Item}
use Rattle.oss_syntax.specs.declared.tree.program.Item.TheVariants as items
use Rattle.oss_grammar.specs.Layout.{cells_of}
use Rattle.oss_grammar.specs.SectionCells.{Base, signed}
use Rattle.oss_grammar.specs.Values.{sum_of, difference_of}
use Rattle.oss_sections.specs.Places.{place_of}
use Rattle.oss_meaning.specs.declared.value.Value.{Value}
use Rattle.oss_meaning.specs.declared.value.Value.TheVariants as value

-- The cells of a global: the first, how many they are, and how many of them make a row of an array of two dimensions.
pub record Extent : Type 0 where
  pub start : ℕ
  pub count : ℕ
  pub columns : Option ℕ

-- the cells of the globals among these items, the first of them at this cell
abbrev pub extents_from : ℕ → List Item → List Extent
extents_from start [] = []
extents_from start (items.Global d ∷ rest) = record { start = start; count = cells_of d.cells; columns = d.columns } ∷ extents_from (start + cells_of d.cells) rest
extents_from start (items.Function f ∷ rest) = extents_from start rest

-- the cells of each global, in text order: `a` of the example has 3 from cell 1 on
abbrev pub extents_of : List Item → List Extent
extents_of all = extents_from 0 all

-- the number of 64 bits that is this number, read as signed: that of -1 is 2^64 - 1
abbrev pub unsigned_of : ℤ → ℕ
unsigned_of i = if int_lt i (pos 0) then 2 ^ 64 - nat_abs i else nat_abs i

-- which way a pointer moves
abbrev pub moved_index : Bool → ℤ → ℕ → ℤ
moved_index true i n = signed (difference_of (unsigned_of i) n)
moved_index false i n = signed (sum_of (unsigned_of i) n)

-- the number that a value is; a pointer is none, and counts as 0
abbrev pub number_in : Value → ℕ
number_in (value.Num n) = n
number_in _ = 0

-- a pointer that is moved by a number, back or forth; what points nowhere goes on to do so
abbrev pub moved : Bool → Value → Value → Value
moved back (value.Place g i) v = value.Place g (moved_index back i (number_in v))
moved back _ v = value.Nowhere

-- the cell of a global that has this index, if there is one
abbrev pub cell_in : Option Extent → ℤ → Option ℕ
cell_in None i = None
cell_in (Some e) i = if int_le (pos 0) i && int_lt i (pos e.count) then Some (e.start + nat_abs i) else None

-- the cell to which a value points, if it points to one
abbrev pub cell_of : List Extent → Value → Option ℕ
cell_of globals (value.Place g i) = cell_in (slice_get globals g) i
cell_of globals _ = None

-- a pointer to the element at this place of a global; without a place it points nowhere
abbrev pub pointer_to : ℕ → Option ℕ → Value
pointer_to g None = value.Nowhere
pointer_to g (Some i) = value.Place g (pos i)

-- the place of an element of a global, or of the first one of a row: none where it has no rows, or an index is outside of its dimension
abbrev pub place_in : Option ℕ → ℕ → ℕ → Option ℕ → Option ℕ
place_in None count row column = None
place_in (Some m) count row column = place_of (count / m) m row column

-- the same of a global that may not be there
abbrev pub place_of_global : Option Extent → ℕ → Option ℕ → Option ℕ
place_of_global None row column = None
place_of_global (Some e) row column = place_in e.columns e.count row column

-- the pointer to the first element of a row of an array of two dimensions: `m[1]`
abbrev pub row_of : List Extent → ℕ → ℕ → Value
row_of globals g row = pointer_to g (place_of_global (slice_get globals g) row None)

-- the pointer to an element of it: `m[1][2]`, both indices tested
abbrev pub element_of : List Extent → ℕ → ℕ → ℕ → Value
element_of globals g row column = pointer_to g (place_of_global (slice_get globals g) row (Some column))

-- the base of a section over a global: all of it
abbrev pub global_base : Option Extent → Base
global_base None = record { start = 0; count = 0; columns = None; index = 0 }
global_base (Some e) = record { start = e.start; count = e.count; columns = e.columns; index = 0 }

-- the base of a section over a pointer: it moves over the cells of its global one by one
abbrev pub pointed_base : Option Extent → ℤ → Base
pointed_base None i = record { start = 0; count = 0; columns = None; index = unsigned_of i }
pointed_base (Some e) i = record { start = e.start; count = e.count; columns = None; index = unsigned_of i }

-- the base of a section over a value: what is no pointer to a global has no cells
abbrev pub value_base : List Extent → Value → Base
value_base globals (value.Place g i) = pointed_base (slice_get globals g) i
value_base globals _ = record { start = 0; count = 0; columns = None; index = 0 }
