-- What names stand for at a place of the text (C11 6.2.1): a local by its place among the locals in scope, which are listed from the
-- oldest on; a global or a function by its number in text order.
-- Read against: with `long x, a[3], m[2][4]; void f() {}` and the locals `p` and `x` in scope, `x` is the local 1, `p` the local 0, `a` the global 1, `m` the
-- global 2 and `f` the function 0; `y` is unknown. Of two locals `x` the last one counts, and of two globals the first.
use Rattle.std.specs.Prelude.{ℕ, ◌+◌, if◌then◌else◌, List, [], ◌∷◌, Option, Some, None}
use Rattle.std.specs.Str.{bytes_eq}
use Rattle.oss_syntax.specs.declared.tree.program.Function.{Function}
use Rattle.oss_syntax.specs.declared.tree.program.Item.{Item}
use Rattle.oss_syntax.specs.declared.tree.program.Item.TheVariants as items
use Rattle.oss_syntax.specs.declared.tree.program.Local.{Local}
use Rattle.oss_syntax.specs.declared.tree.program.NumKind.{NumKind}
use Rattle.oss_meaning.specs.declared.names.Found.{Found}
use Rattle.oss_meaning.specs.declared.names.Found.TheVariants as names

-- a global with this number, by its numbers of cells and of columns
abbrev pub global_found : Option ℕ → Option ℕ → ℕ → NumKind → Found
global_found None columns g kind = names.Scalar g kind
global_found (Some n) None g kind = names.Array g kind
global_found (Some n) (Some columns) g kind = names.Grid g kind

-- the first item with this name, where so many globals and functions stand before these items
abbrev pub item_from : ℕ → ℕ → List Item → List ℕ → Found
item_from g f [] name = names.Unknown
item_from g f (items.Global d ∷ rest) name = if bytes_eq d.name name then global_found d.cells d.columns g d.kind else item_from (g + 1) f rest name
item_from g f (items.Function d ∷ rest) name = if bytes_eq d.name name then names.Function f else item_from g (f + 1) rest name

-- the global or function with this name
abbrev pub item_found : List Item → List ℕ → Found
item_found all name = item_from 0 0 all name

-- one, and where it is unknown the other
abbrev pub or_found : Found → Found → Found
or_found names.Unknown other = other
or_found found other = found

-- the last local with this name, where so many stand before these
abbrev pub local_from : ℕ → List Local → List ℕ → Found
local_from i [] name = names.Unknown
local_from i (l ∷ rest) name = or_found (local_from (i + 1) rest name) (if bytes_eq l.name name then names.Variable i l.kind else names.Unknown)

-- what a name stands for: a local hides the globals and functions of its name
abbrev pub found : List Item → List Local → List ℕ → Found
found all scope name = or_found (local_from 0 scope name) (item_found all name)

-- the functions, in text order
abbrev pub functions_of : List Item → List Function
functions_of [] = []
functions_of (items.Global d ∷ rest) = functions_of rest
functions_of (items.Function f ∷ rest) = f ∷ functions_of rest
