-- The static rules of whole programs: those of each global and each function in text order, and that there is a function `main`.
-- Read against: `long x; long x; int main() {}` breaks DuplicateName at the second `x`; `long a[1048576], b; int main() {}` breaks
-- TooLarge at `b`, and `long m[3][0];` at `m`; `void main() {}` breaks WrongKind at `main`; and the empty text breaks NoMain on line 1.
use Rattle.std.specs.Prelude.{ℕ, ◌+◌, ◌==◌, nat_lt, Bool, true, false, not, ◌&&◌, ◌||◌, List, [], ◌∷◌, ◌++◌, length, Option, Some, None, is_some}
use Rattle.oss_syntax.specs.declared.tree.pragma.TaskMark.{TaskMark}
use Rattle.oss_syntax.specs.declared.tree.program.Function.{Function}
use Rattle.oss_syntax.specs.declared.tree.program.GlobalDef.{GlobalDef}
use Rattle.oss_syntax.specs.declared.tree.program.Item.{Item}
use Rattle.oss_syntax.specs.declared.tree.program.Item.TheVariants as items
use Rattle.oss_syntax.specs.declared.tree.program.Kind.{Kind}
use Rattle.oss_syntax.specs.declared.tree.program.Kind.TheVariants as kind
use Rattle.oss_syntax.specs.declared.tree.program.Local.{Local}
use Rattle.oss_syntax.specs.declared.tree.program.Program.{Program}
use Rattle.oss_grammar.specs.declared.kinds.Around.{Around}
use Rattle.oss_grammar.specs.declared.kinds.Nearest.TheVariants as nearest
use Rattle.oss_syntax.specs.declared.refusal.Refused.{Refused}
use Rattle.oss_syntax.specs.declared.refusal.RefusedKind.TheVariants as refused
use Rattle.oss_grammar.specs.Broken.{first, where_so}
use Rattle.oss_grammar.specs.Layout.{cells_of}
use Rattle.oss_grammar.specs.Scopes.{is_main, is_again}
use Rattle.oss_grammar.specs.SectionRules.{clauses_rules, is_int}
use Rattle.oss_grammar.specs.StaticRules.{Judged, declare_all, rules_of_all}

-- whether with this global, behind so many cells, an array has no cell, as where a dimension is 0, or there are too many cells in all
abbrev pub passes_cells : ℕ → Option ℕ → Bool
passes_cells before cells = cells_of cells == 0 || nat_lt 1048576 (before + cells_of cells)

abbrev pub global_rules : List Item → ℕ → ℕ → GlobalDef → List Refused
global_rules all i before g = where_so (is_again all i g.name) refused.DuplicateName g.line ++ where_so (passes_cells before g.cells) refused.TooLarge g.line

abbrev pub returns_int : Kind → Bool
returns_int (kind.Num n) = is_int n
returns_int _ = false

abbrev pub returns_nothing : Kind → Bool
returns_nothing kind.Nothing = true
returns_nothing _ = false

-- `main` has no parameters and no pragma, and returns `int`; a function with a pragma returns nothing
abbrev pub is_wrong_function : Function → Bool
is_wrong_function f = (is_main f.name && (not (length f.params == 0) || not (returns_int f.result))) || (is_some f.mark && (is_main f.name || not (returns_nothing f.result)))

abbrev pub mark_rules : List Item → List Local → Option TaskMark → List Refused
mark_rules all locals None = []
mark_rules all locals (Some mark) = clauses_rules all locals 0 mark.clauses

-- what stands around the body of a function
abbrev pub body_around : Kind → Around
body_around result = record { start = 0; result = result; nearest = nearest.NoLoop; in_task = false }

-- The pragma of a function stands before it, and its parameters are in scope there. They share one scope with the outermost block.
abbrev pub parts_rules : List Item → ℕ → Function → Judged → List Refused
parts_rules all i f params =
    mark_rules all params.locals f.mark
    ++ (where_so (is_again all i f.name) refused.DuplicateName f.line
    ++ (where_so (is_wrong_function f) refused.WrongKind f.line
    ++ (params.broken ++ (rules_of_all f.body all (body_around f.result) params.locals).broken)))

abbrev pub function_rules : List Item → ℕ → Function → List Refused
function_rules all i f = parts_rules all i f (declare_all all 0 f.params [])

-- the rules that items break, from this place on and behind so many cells
abbrev pub items_rules : List Item → ℕ → ℕ → List Item → List Refused
items_rules all i before [] = []
items_rules all i before (items.Global g ∷ rest) = global_rules all i before g ++ items_rules all (i + 1) (before + cells_of g.cells) rest
items_rules all i before (items.Function f ∷ rest) = function_rules all i f ++ items_rules all (i + 1) before rest

abbrev pub has_main : List Item → Bool
has_main [] = false
has_main (items.Global g ∷ rest) = has_main rest
has_main (items.Function f ∷ rest) = is_main f.name || has_main rest

-- all rules that a program breaks, in text order
abbrev pub program_rules : Program → List Refused
program_rules p = items_rules p.items 0 0 p.items ++ where_so (not (has_main p.items)) refused.NoMain 1

-- why a program is refused; one that breaks no rule is not
abbrev pub refusal_of : Program → Option Refused
refusal_of p = first (program_rules p)
