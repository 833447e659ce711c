-- Rows worked by hand: what names stand for, where pointers point, and what operators make of values.
use Rattle.std.proofs.Common.{◌≡◌, true, false, List, [], ◌∷◌, Some, None, Ok, Err, refl}
use Rattle.std.specs.Prelude.{codes, pos, neg_ℤ}
use Rattle.oss_syntax.specs.declared.fault.FaultKind.TheVariants as fault
use Rattle.oss_syntax.specs.declared.tree.expr.BinOp.TheVariants as op
use Rattle.oss_syntax.specs.declared.tree.expr.UnOp.TheVariants as prefix
use Rattle.oss_syntax.specs.declared.tree.program.Item.{Item}
use Rattle.oss_syntax.specs.declared.tree.program.Item.TheVariants as items
use Rattle.oss_syntax.specs.declared.tree.program.Kind.TheVariants as kind
use Rattle.oss_syntax.specs.declared.tree.program.Local.{Local}
use Rattle.oss_syntax.specs.declared.tree.program.NumKind.TheVariants as num
use Rattle.oss_meaning.specs.declared.names.Found.TheVariants as names
use Rattle.oss_meaning.specs.declared.value.Value.TheVariants as value
use Rattle.oss_meaning.specs.Names.{found}
use Rattle.oss_meaning.specs.Operators.{applied_to, first_value, kept_value, operated, prefixed}
use Rattle.oss_meaning.specs.Pointers.{cell_of, element_of, extents_of, moved, row_of}
use Rattle.oss_meaning.specs.Results.{first_cells}
use Rattle.oss_meaning.proofs.RowTrees.{long, pointer, global, function, pointing_at}

-- Names

-- `long x, a[3], m[2][4]; void f() {}`
abbrev named : List Item
named =
    global (codes "x") num.Long None None
    ∷ global (codes "a") num.Long (Some 3) None
    ∷ global (codes "m") num.Long (Some 8) (Some 4)
    ∷ items.Function (function (codes "f") kind.Nothing [] 1 [])
    ∷ []

-- a pointer `p` and a number `x`
abbrev locals_named : List Local
locals_named = pointer (codes "p") None ∷ long (codes "x") None ∷ []

local_found : found named locals_named (codes "x") ≡ names.Variable 1 (kind.Num num.Long)
local_found = refl

pointer_found : found named locals_named (codes "p") ≡ names.Variable 0 (kind.Pointer num.Long)
pointer_found = refl

array_found : found named locals_named (codes "a") ≡ names.Array 1 num.Long
array_found = refl

grid_found : found named locals_named (codes "m") ≡ names.Grid 2 num.Long
grid_found = refl

function_found : found named locals_named (codes "f") ≡ names.Function 0
function_found = refl

nothing_found : found named locals_named (codes "y") ≡ names.Unknown
nothing_found = refl

-- without locals `x` is the global, and of two locals of one name the last one counts
scalar_found : found named [] (codes "x") ≡ names.Scalar 0 num.Long
scalar_found = refl

last_found : found named (long (codes "x") None ∷ pointer (codes "x") None ∷ []) (codes "x") ≡ names.Variable 1 (kind.Pointer num.Long)
last_found = refl

-- Pointers

-- the pointer to `a` less 1, and 2 more
left_of_array : cell_of (extents_of named) (moved true (pointing_at 1 (pos 0)) (value.Num 1)) ≡ None
left_of_array = refl

back_in_array : cell_of (extents_of named) (moved false (moved true (pointing_at 1 (pos 0)) (value.Num 1)) (value.Num 2)) ≡ Some 2
back_in_array = refl

-- a pointer moves modulo 2^64: from the greatest index to the least, and back
moved_around : moved false (pointing_at 1 (pos 9223372036854775807)) (value.Num 1) ≡ pointing_at 1 (neg_ℤ (pos 9223372036854775808))
moved_around = refl

moved_back : moved true (pointing_at 1 (neg_ℤ (pos 9223372036854775808))) (value.Num 1) ≡ pointing_at 1 (pos 9223372036854775807)
moved_back = refl

-- row 1 of `m` begins at cell 8; `m[1][4]`, `m[-1][0]` and row 2 are none
row_begins : cell_of (extents_of named) (row_of (extents_of named) 2 1) ≡ Some 8
row_begins = refl

last_element : cell_of (extents_of named) (element_of (extents_of named) 2 1 3) ≡ Some 11
last_element = refl

past_row : element_of (extents_of named) 2 1 4 ≡ value.Nowhere
past_row = refl

before_rows : element_of (extents_of named) 2 18446744073709551615 0 ≡ value.Nowhere
before_rows = refl

past_rows : row_of (extents_of named) 2 2 ≡ value.Nowhere
past_rows = refl

-- Operators

-- `3 / 2`, `1 / 0`, and `-7 % 2`
divided : applied_to op.Div false false (value.Num 3) (value.Num 2) ≡ Ok (value.Num 1)
divided = refl

divided_by_zero : applied_to op.Div false false (value.Num 1) (value.Num 0) ≡ Err fault.DivideByZero
divided_by_zero = refl

remainder_left : applied_to op.Rem false false (value.Num 18446744073709551609) (value.Num 2) ≡ Ok (value.Num 18446744073709551615)
remainder_left = refl

-- the least signed number by -1 is itself, with the remainder 0
least_divided : applied_to op.Div false false (value.Num 9223372036854775808) (value.Num 18446744073709551615) ≡ Ok (value.Num 9223372036854775808)
least_divided = refl

least_remainder : applied_to op.Rem false false (value.Num 9223372036854775808) (value.Num 18446744073709551615) ≡ Ok (value.Num 0)
least_remainder = refl

-- `-1 < 1` as signed numbers, and not where one is unsigned
signed_less : applied_to op.Less false false (value.Num 18446744073709551615) (value.Num 1) ≡ Ok (value.Num 1)
signed_less = refl

unsigned_less : applied_to op.Less false true (value.Num 18446744073709551615) (value.Num 1) ≡ Ok (value.Num 0)
unsigned_less = refl

-- a shift takes the kind of its left operand
shifted_signed : applied_to op.Right false true (value.Num 18446744073709551612) (value.Num 1) ≡ Ok (value.Num 18446744073709551614)
shifted_signed = refl

shifted_unsigned : applied_to op.Right true false (value.Num 18446744073709551612) (value.Num 1) ≡ Ok (value.Num 9223372036854775806)
shifted_unsigned = refl

-- the pointer to `a[1]` plus 2
pointer_plus : operated true op.Add false false (pointing_at 1 (pos 1)) (value.Num 2) ≡ Ok (pointing_at 1 (pos 3))
pointer_plus = refl

-- `-1`, `!0` and `~0`
negated_one : prefixed prefix.Minus (value.Num 1) ≡ value.Num 18446744073709551615
negated_one = refl

not_zero : prefixed prefix.Not (value.Num 0) ≡ value.Num 1
not_zero = refl

inverted_zero : prefixed prefix.Invert (value.Num 0) ≡ value.Num 18446744073709551615
inverted_zero = refl

-- what an `int` keeps of 2147483648, and what a pointer is without a value
int_keeps : kept_value (kind.Num num.Int) (value.Num 2147483648) ≡ value.Num 18446744071562067968
int_keeps = refl

no_value : first_value (kind.Pointer num.Long) ≡ value.Nowhere
no_value = refl

-- The start

-- `int i = 4294967301; long a[2]; long y = -1;` has 5, 0, 0 and -1 in its cells
cells_begun : first_cells (items.Global (record { name = codes "i"; kind = num.Int; cells = None; columns = None; first = 4294967301; line = 1 })
    ∷ global (codes "a") num.Long (Some 2) None
    ∷ items.Global (record { name = codes "y"; kind = num.Long; cells = None; columns = None; first = 18446744073709551615; line = 1 })
    ∷ [])
    ≡ 5 ∷ 0 ∷ 0 ∷ 18446744073709551615 ∷ []
cells_begun = refl
