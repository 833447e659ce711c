-- Scopes (C11 6.2.1): what a name stands for at a place of the text. Globals and functions are known in the whole text. Of the
-- locals those are in scope that were declared before the place in a block around it, or are parameters; the last one declared of
-- a name hides the others, and every global and function of that name.
-- Read against: in `long x; int main() { long x; { int *x; x = x; } x = 1; }` the inner `x` is a pointer, and the last one a number.
use Rattle.std.specs.Prelude.{ℕ, ◌==◌, Bool, true, not, if◌then◌else◌, List, [], ◌∷◌, ◌++◌, map, drop, Option, Some, None, position, slice_get, codes}
use Rattle.std.specs.List.{list_any}
use Rattle.std.specs.Str.{bytes_eq}
use Rattle.oss_syntax.specs.declared.tree.program.Function.{Function}
use Rattle.oss_syntax.specs.declared.tree.program.Item.{Item}
use Rattle.oss_syntax.specs.declared.tree.program.Item.TheVariants as items
use Rattle.oss_syntax.specs.declared.tree.program.Kind.{Kind}
use Rattle.oss_syntax.specs.declared.tree.program.Kind.TheVariants as kind
use Rattle.oss_syntax.specs.declared.tree.program.Local.{Local}
use Rattle.oss_syntax.specs.declared.tree.program.NumKind.{NumKind}
use Rattle.oss_syntax.specs.declared.tree.program.NumKind.TheVariants as num
use Rattle.oss_syntax.specs.declared.tree.stmt.LoopHead.{LoopHead}
use Rattle.oss_grammar.specs.declared.kinds.Named.{Named}
use Rattle.oss_grammar.specs.declared.kinds.Named.TheVariants as named

abbrev pub item_name : Item → List ℕ
item_name (items.Global g) = g.name
item_name (items.Function f) = f.name

-- the place of the first item with this name: of two declarations the first counts
abbrev pub item_place : List Item → List ℕ → Option ℕ
item_place all name = position (λ other. bytes_eq other name) (map item_name all)

-- the item at a place
abbrev pub item_at : List Item → Option ℕ → Option Item
item_at all None = None
item_at all (Some i) = slice_get all i

abbrev pub item_named : List Item → List ℕ → Option Item
item_named all name = item_at all (item_place all name)

-- whether the item at this place declares its name again
abbrev pub is_not_at : Option ℕ → ℕ → Bool
is_not_at None i = true
is_not_at (Some k) i = not (k == i)

abbrev pub is_again : List Item → ℕ → List ℕ → Bool
is_again all i name = is_not_at (item_place all name) i

abbrev pub or_else : {A : Type 0} → Option A → Option A → Option A
or_else (Some a) other = Some a
or_else None other = other

-- the type of the last local of this name
abbrev pub local_kind : List Local → List ℕ → Option Kind
local_kind [] name = None
local_kind (l ∷ rest) name = or_else (local_kind rest name) (if bytes_eq l.name name then Some l.kind else None)

-- whether a local of this name is declared in the innermost scope, which begins at this place of the locals
abbrev pub is_local_again : ℕ → List Local → List ℕ → Bool
is_local_again start locals name = list_any (λ l. bytes_eq l.name name) (drop start locals)

-- a global by its numbers of cells and of columns
abbrev pub global_meaning : Option ℕ → Option ℕ → NumKind → Named
global_meaning None columns kind = named.Scalar kind
global_meaning (Some n) None kind = named.Array kind
global_meaning (Some n) (Some columns) kind = named.Grid kind

abbrev pub item_meaning : Option Item → Named
item_meaning None = named.Missing
item_meaning (Some (items.Global g)) = global_meaning g.cells g.columns g.kind
item_meaning (Some (items.Function f)) = named.Function

-- locals hide items
abbrev pub hides : Option Kind → Named → Named
hides None behind = behind
hides (Some kind) behind = named.Local kind

-- what a name stands for
abbrev pub meaning : List Item → List Local → List ℕ → Named
meaning all locals name = hides (local_kind locals name) (item_meaning (item_named all name))

abbrev pub as_function : Option Item → Option Function
as_function None = None
as_function (Some (items.Global g)) = None
as_function (Some (items.Function f)) = Some f

-- the function that a name stands for where no local hides it
abbrev pub function_named : List Item → List ℕ → Option Function
function_named all name = as_function (item_named all name)

-- whether a name is `main`, the function with which a run begins
abbrev pub is_main : List ℕ → Bool
is_main name = bytes_eq name (codes "main")

-- The locals of a task loop in scope in its clauses and its statement: its variable, and four that no text can name, for where the next
-- task begins, where the loop ends, how many turns a task makes, and where this task ends.
abbrev pub hidden_local : Local
hidden_local = record { name = codes "$"; kind = kind.Num num.Long; first = None; line = 0 }

abbrev pub loop_locals : LoopHead → List Local → List Local
loop_locals head locals = locals ++ (hidden_local ∷ hidden_local ∷ hidden_local ∷ hidden_local ∷ head.variable ∷ [])
