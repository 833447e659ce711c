-- Trees in which calls and declarations fit: each call has as many arguments as its function has parameters (C11 6.5.2.2p2), `main` has no parameters, and a
-- declaration stands in a block, in the body of a function or as the first part of a `for`, and nowhere else (C11 6.8). The rules on calls refuse the one, and no
-- text of the grammar has the other.
-- Read against: with `void f(long a) {}` the statement `f(1);` fits, and `f();` and `f(1, 2);` do not; `{ long y; }` and `for (long y = 0;;) ;` fit, and the tree in which `long y;` is
-- a side of an `if` does not. A task loop that is not written out does nothing, so it fits.
use Rattle.std.specs.Prelude.{ℕ, ◌==◌, Bool, true, false, not, ◌&&◌, List, [], ◌∷◌, length, map, codes, Option, Some, None, slice_get}
use Rattle.oss_syntax.specs.declared.tree.expr.Expr.{Expr}
use Rattle.oss_syntax.specs.declared.tree.expr.ExprKind.TheOpen.{ExprKind-F, Expr-F}
use Rattle.oss_syntax.specs.declared.tree.expr.ExprKind.TheOpen as open_expr
use Rattle.oss_syntax.specs.declared.tree.expr.ExprKind.TheFolds.{fold-Expr}
use Rattle.oss_syntax.specs.declared.tree.pragma.Clause.{Clause}
use Rattle.oss_syntax.specs.declared.tree.pragma.Clause.TheVariants as clause
use Rattle.oss_syntax.specs.declared.tree.pragma.Form.{Form}
use Rattle.oss_syntax.specs.declared.tree.pragma.Form.TheVariants as form
use Rattle.oss_syntax.specs.declared.tree.pragma.Section.{Section}
use Rattle.oss_syntax.specs.declared.tree.pragma.TaskMark.{TaskMark}
use Rattle.oss_syntax.specs.declared.tree.program.Function.{Function}
use Rattle.oss_syntax.specs.declared.tree.program.Item.{Item}
use Rattle.oss_syntax.specs.declared.tree.program.Local.{Local}
use Rattle.oss_syntax.specs.declared.tree.stmt.Stmt.{Stmt}
use Rattle.oss_syntax.specs.declared.tree.stmt.StmtKind.TheOpen.{StmtKind-F, Stmt-F}
use Rattle.oss_syntax.specs.declared.tree.stmt.StmtKind.TheOpen as open_stmt
use Rattle.oss_syntax.specs.declared.tree.stmt.StmtKind.TheFolds.{fold-Stmt}
use Rattle.oss_meaning.specs.declared.names.Found.{Found}
use Rattle.oss_meaning.specs.declared.names.Found.TheVariants as names
use Rattle.oss_meaning.specs.Names.{functions_of, item_found}
use Rattle.oss_meaning.specs.Sections.{operands_in}

-- Expressions

-- each of these holds
abbrev pub all_hold : List Bool → Bool
all_hold [] = true
all_hold (b ∷ rest) = b && all_hold rest

-- a function has so many parameters; one that is not there may be given any
abbrev pub function_takes : Option Function → ℕ → Bool
function_takes None n = true
function_takes (Some f) n = n == length f.params

-- what a name stands for takes so many arguments; what is no function is not called
abbrev pub takes : List Item → Found → ℕ → Bool
takes all (names.Function f) n = function_takes (slice_get (functions_of all) f) n
takes all _ n = true

-- an expression, by whether its parts fit
abbrev pub fits_step : List Item → ExprKind-F Bool Bool → Bool
fits_step all (open_expr.Number n unsigned) = true
fits_step all (open_expr.Name name) = true
fits_step all (open_expr.Index a e) = a && e
fits_step all (open_expr.Unary o e) = e
fits_step all (open_expr.Binary o a b) = a && b
fits_step all (open_expr.Call name es) = all_hold es && takes all (item_found all name) (length es)

-- each call in an expression has as many arguments as its function has parameters
abbrev pub fits : List Item → Expr → Bool
fits all = fold-Expr Bool Bool (fits_step all) (λ e. e.what)

-- so it is in each of these
abbrev pub all_fit : List Item → List Expr → Bool
all_fit all es = all_hold (map (fits all) es)

-- and in one that may be left out
abbrev pub optional_fits : List Item → Option Expr → Bool
optional_fits all None = true
optional_fits all (Some e) = fits all e

-- Pragmas

-- the expressions of a section
abbrev pub form_fits : List Item → Form → Bool
form_fits all (form.Many e f turns) = fits all e && (optional_fits all f && (optional_fits all turns.variable.first && fits all turns.count))
form_fits all x = all_fit all (operands_in x)

abbrev pub sections_fit : List Item → List Section → Bool
sections_fit all [] = true
sections_fit all (s ∷ rest) = form_fits all s.form && sections_fit all rest

-- those of a clause that are evaluated
abbrev pub clause_fits : List Item → Clause → Bool
clause_fits all (clause.Depend mode strong fresh sections) = sections_fit all sections
clause_fits all (clause.If e) = fits all e
clause_fits all (clause.Final e) = fits all e
clause_fits all (clause.Priority e) = fits all e
clause_fits all _ = true

abbrev pub clauses_fit : List Item → List Clause → Bool
clauses_fit all [] = true
clauses_fit all (c ∷ rest) = clause_fits all c && clauses_fit all rest

abbrev pub mark_fits : List Item → Option TaskMark → Bool
mark_fits all None = true
mark_fits all (Some mark) = clauses_fit all mark.clauses

-- the sections of a `taskwait`, if it has some
abbrev pub waits_fit : List Item → Option (List Section) → Bool
waits_fit all None = true
waits_fit all (Some sections) = sections_fit all sections

-- Statements

-- What is to be known of a statement: whether it is a declaration, and whether what stands in it fits.
pub record Shape : Type 0 where
  pub declares : Bool
  pub fits : Bool

-- a statement that is no declaration
abbrev pub shape : Bool → Shape
shape b = record { declares = false; fits = b }

-- a statement that may stand anywhere: it fits, and is no declaration
abbrev pub stands : Shape → Bool
stands s = not s.declares && s.fits

-- the same of a part that may be left out
abbrev pub part_stands : Option Shape → Bool
part_stands None = true
part_stands (Some s) = stands s

-- a part that may be a declaration too
abbrev pub part_fits : Option Shape → Bool
part_fits None = true
part_fits (Some s) = s.fits

-- statements of a block, among which declarations may stand
abbrev pub shapes_fit : List Shape → Bool
shapes_fit [] = true
shapes_fit (s ∷ rest) = s.fits && shapes_fit rest

-- the initial values of locals
abbrev pub locals_fit : List Item → List Local → Bool
locals_fit all [] = true
locals_fit all (l ∷ rest) = optional_fits all l.first && locals_fit all rest

-- a statement, by the shapes of those in it
abbrev pub shape_step : List Item → StmtKind-F Shape Shape → Shape
shape_step all (open_stmt.Block inner) = shape (shapes_fit inner)
shape_step all open_stmt.Empty = shape true
shape_step all (open_stmt.Declare locals) = record { declares = true; fits = locals_fit all locals }
shape_step all (open_stmt.Assign target o e) = shape (fits all target && fits all e)
shape_step all (open_stmt.Call name es) = shape (all_fit all es && takes all (item_found all name) (length es))
shape_step all (open_stmt.Print format es) = shape (all_fit all es)
shape_step all (open_stmt.If e side other) = shape (fits all e && (stands side && part_stands other))
shape_step all (open_stmt.While e body) = shape (fits all e && stands body)
shape_step all (open_stmt.For first test last body) = shape (part_fits first && (optional_fits all test && (part_stands last && stands body)))
shape_step all (open_stmt.Return e) = shape (optional_fits all e)
shape_step all open_stmt.Break = shape true
shape_step all open_stmt.Continue = shape true
shape_step all (open_stmt.Task mark body) = shape (clauses_fit all mark.clauses && stands body)
shape_step all (open_stmt.TaskLoop head body) = shape true
shape_step all (open_stmt.TaskWait sections) = shape (waits_fit all sections)
shape_step all (open_stmt.Release clauses) = shape (clauses_fit all clauses)

-- the shape of a statement
abbrev pub shape_of : List Item → Stmt → Shape
shape_of all = fold-Stmt Shape Shape (shape_step all) (λ s. s.what)

-- the statements of a body fit, among which declarations may stand
abbrev pub body_fits : List Item → List Stmt → Bool
body_fits all ss = shapes_fit (map (shape_of all) ss)

-- Programs

-- the clauses and the body of a function
abbrev pub function_fits : List Item → Function → Bool
function_fits all f = mark_fits all f.mark && body_fits all f.body

abbrev pub functions_fit : List Item → List Function → Bool
functions_fit all [] = true
functions_fit all (f ∷ rest) = function_fits all f && functions_fit all rest

-- a program: its functions, and `main`, which is given no arguments
abbrev pub program_fits : List Item → Bool
program_fits all = functions_fit all (functions_of all) && takes all (item_found all (codes "main")) 0
