-- Where each global lies: the cells of a global begin at the sum of the cells of the globals before it.
-- Read against: with `long x, a[3], b;` the cell of `x` is 0, those of `a` are 1 to 3, and that of `b` is 4; there are 5.
use Rattle.std.specs.Prelude.{ℕ, List, [], ◌∷◌, take, Option, Some, None}
use Rattle.std.specs.List.{sum}
use Rattle.oss_syntax.specs.declared.tree.program.Item.{Item}
use Rattle.oss_syntax.specs.declared.tree.program.Item.TheVariants as items

-- how many cells a global has: a scalar has one
abbrev pub cells_of : Option ℕ → ℕ
cells_of None = 1
cells_of (Some n) = n

-- the numbers of cells of the globals, in text order
abbrev pub sizes_of : List Item → List ℕ
sizes_of [] = []
sizes_of (items.Global g ∷ rest) = cells_of g.cells ∷ sizes_of rest
sizes_of (items.Function f ∷ rest) = sizes_of rest

-- how many cells there are in all
abbrev pub cells_in : List Item → ℕ
cells_in all = sum (sizes_of all)

-- the first cell of the global with this number
abbrev pub start_of : List Item → ℕ → ℕ
start_of all i = sum (take i (sizes_of all))

-- the names of the globals, in text order
abbrev pub names_of : List Item → List (List ℕ)
names_of [] = []
names_of (items.Global g ∷ rest) = g.name ∷ names_of rest
names_of (items.Function f ∷ rest) = names_of rest
