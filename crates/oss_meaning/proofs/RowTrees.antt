-- The trees of the rows that were worked by hand, and the asks of the bodies of a program, one after the other.
use Rattle.std.proofs.Common.{ℕ, true, false, List, [], ◌∷◌, map, Option, Some, None}
use Rattle.std.specs.Prelude.{codes, ℤ, pos}
use Rattle.oss_syntax.specs.declared.access.Access.{Access}
use Rattle.oss_syntax.specs.declared.access.Mode.TheVariants as mode
use Rattle.oss_syntax.specs.declared.tree.expr.BinOp.{BinOp}
use Rattle.oss_syntax.specs.declared.tree.expr.BinOp.TheVariants as op
use Rattle.oss_syntax.specs.declared.tree.expr.Expr.{Expr}
use Rattle.oss_syntax.specs.declared.tree.expr.ExprKind.{ExprKind}
use Rattle.oss_syntax.specs.declared.tree.expr.ExprKind.TheVariants as exprs
use Rattle.oss_syntax.specs.declared.tree.expr.UnOp.TheVariants as prefix
use Rattle.oss_syntax.specs.declared.tree.pragma.Clause.{Clause}
use Rattle.oss_syntax.specs.declared.tree.pragma.Clause.TheVariants as clause
use Rattle.oss_syntax.specs.declared.tree.pragma.Form.{Form}
use Rattle.oss_syntax.specs.declared.tree.pragma.Section.{Section}
use Rattle.oss_syntax.specs.declared.tree.program.Function.{Function}
use Rattle.oss_syntax.specs.declared.tree.program.Item.{Item}
use Rattle.oss_syntax.specs.declared.tree.program.Item.TheVariants as items
use Rattle.oss_syntax.specs.declared.tree.program.Kind.{Kind}
use Rattle.oss_syntax.specs.declared.tree.program.Kind.TheVariants as kind
use Rattle.oss_syntax.specs.declared.tree.program.Local.{Local}
use Rattle.oss_syntax.specs.declared.tree.program.NumKind.{NumKind}
use Rattle.oss_syntax.specs.declared.tree.program.NumKind.TheVariants as num
use Rattle.oss_syntax.specs.declared.tree.stmt.Stmt.{Stmt}
use Rattle.oss_syntax.specs.declared.tree.stmt.StmtKind.{StmtKind}
use Rattle.oss_syntax.specs.declared.tree.stmt.StmtKind.TheVariants as stmts
use Rattle.oss_model.specs.Bodies.{Ask, Asked}
use Rattle.oss_model.specs.Bodies.Ask.{Create}
use Rattle.oss_meaning.specs.declared.value.Value.{Value}
use Rattle.oss_meaning.specs.declared.value.Value.TheVariants as value
use Rattle.oss_meaning.specs.Expressions.{Here, TaskBody, TreeRun, TreeScript}
use Rattle.oss_meaning.specs.Meaning.{asks_of, calls_of, within}
use Rattle.oss_meaning.specs.Statements.{Around, Ways, in_order, meanings_of}
use Rattle.oss_meaning.specs.Sections.{declared_on, ranges_of}

-- Trees

abbrev pub expression : ExprKind → Expr
expression what = record { what = what; line = 0 }

abbrev pub number : ℕ → Expr
number k = expression (exprs.Number k false)

abbrev pub name : List ℕ → Expr
name text = expression (exprs.Name text)

abbrev pub element : Expr → Expr → Expr
element a e = expression (exprs.Index a e)

abbrev pub pointed : Expr → Expr
pointed e = expression (exprs.Unary prefix.Deref e)

abbrev pub address : Expr → Expr
address e = expression (exprs.Unary prefix.Address e)

abbrev pub joined : BinOp → Expr → Expr → Expr
joined o a b = expression (exprs.Binary o a b)

abbrev pub call : List ℕ → List Expr → Expr
call text es = expression (exprs.Call text es)

abbrev pub on : ℕ → StmtKind → Stmt
on line what = record { what = what; line = line }

abbrev pub set : ℕ → Expr → Expr → Stmt
set line t e = on line (stmts.Assign t None e)

abbrev pub change : ℕ → Expr → BinOp → Expr → Stmt
change line t o e = on line (stmts.Assign t (Some o) e)

abbrev pub local : List ℕ → Kind → Option Expr → Local
local text k first = record { name = text; kind = k; first = first; line = 0 }

abbrev pub long : List ℕ → Option Expr → Local
long text first = local text (kind.Num num.Long) first

abbrev pub pointer : List ℕ → Option Expr → Local
pointer text first = local text (kind.Pointer num.Long) first

abbrev pub section : List ℕ → Form → Section
section text f = record { base = text; form = f; line = 0; base_line = 0 }

abbrev pub reads : List Section → Clause
reads sections = clause.Depend mode.Read true false sections

abbrev pub task : ℕ → List Clause → Stmt → Stmt
task line clauses body = on line (stmts.Task (record { clauses = clauses; line = line }) body)

-- Names that stand in many rows

abbrev pub x : Expr
x = name (codes "x")

abbrev pub a : Expr
a = name (codes "a")

abbrev pub i : Expr
i = name (codes "i")

abbrev pub b : Expr
b = name (codes "b")

abbrev pub u : Expr
u = name (codes "u")

abbrev pub m : Expr
m = name (codes "m")

abbrev pub p : Expr
p = name (codes "p")

abbrev pub q : Expr
q = name (codes "q")

abbrev pub y : Expr
y = name (codes "y")

abbrev pub z : Expr
z = name (codes "z")

-- Programs

abbrev pub global : List ℕ → NumKind → Option ℕ → Option ℕ → Item
global text n cells columns = items.Global (record { name = text; kind = n; cells = cells; columns = columns; first = 0; line = 1 })

-- `long x, a[3]; int i, b[2]; unsigned long u; long m[3][4];`: the cells of `a` begin at 1, `i` is cell 4, the cells of `b` begin at 5, `u` is cell
-- 7, and the cells of `m` begin at 8
abbrev pub globals_before : List Item → List Item
globals_before rest =
    global (codes "x") num.Long None None
    ∷ global (codes "a") num.Long (Some 3) None
    ∷ global (codes "i") num.Int None None
    ∷ global (codes "b") num.Int (Some 2) None
    ∷ global (codes "u") num.Ulong None None
    ∷ global (codes "m") num.Long (Some 12) (Some 4)
    ∷ rest

abbrev pub function : List ℕ → Kind → List Local → ℕ → List Stmt → Function
function text result params line body = record { name = text; result = result; params = params; mark = None; body = body; line = line }

abbrev pub main_of : List Stmt → Item
main_of body = items.Function (function (codes "main") (kind.Num num.Int) [] 2 body)

-- `main` with this body, and these functions behind it
abbrev pub program_with : List Function → List Stmt → List Item
program_with functions body = globals_before (main_of body ∷ map (λ f. items.Function f) functions)

abbrev pub program : List Stmt → List Item
program body = program_with [] body

-- Asks

abbrev pub asks_along : List Item → TreeScript → List ℕ → List ℕ → List (Asked TreeScript)
asks_along all s past [] = asks_of all s past ∷ []
asks_along all s past (v ∷ vs) = asks_of all s past ∷ asks_along all s (v ∷ past) vs

-- all asks of a body, as these answers come, the oldest first
abbrev pub asks_of_body : List Item → TaskBody → List Value → List ℕ → List (Asked TreeScript)
asks_of_body all body copies answers = asks_along all (record { body = body; copies = copies }) [] answers

-- all asks of `main`
abbrev pub asks : List Item → List ℕ → List (Asked TreeScript)
asks all answers = asks_of_body all TaskBody.main [] answers

abbrev pub asked : Ask TreeScript → ℕ → Asked TreeScript
asked what line = record { ask = what; line = line }

abbrev pub in_scope : List Local → Around
in_scope scope = record { scope = scope; tasks = 0 }

abbrev pub here_in : List Item → Here
here_in all = within all (calls_of all 2) 2 1

-- what one statement does with these locals in scope and these values of them; what goes on behind it is open
abbrev pub done : List Item → Stmt → List Local → List Value → Ways → TreeRun
done all s scope locals ways = in_order (meanings_of all (s ∷ [])) (in_scope scope) (here_in all) ways locals

abbrev pub pointing_at : ℕ → ℤ → Value
pointing_at g index = value.Place g index

-- what a clause `in` declares of these cells
abbrev pub read_cells : List ℕ → List Access
read_cells cells = declared_on (record { mode = mode.Read; strong = true; fresh = false }) (ranges_of cells)

-- a creation without other clauses than those of these cells
abbrev pub creation : TaskBody → List Value → List Access → Ask TreeScript
creation body copies accesses = Create (record { script = record { body = body; copies = copies }; clauses = accesses; when = true; last = false; wait = false; priority = pos 0 })

-- Functions without tasks

-- `long f(long p, long q) { return p - q; }` on the lines 10 and 11, `int g(long p) { return p + 5; }` on 12 and 13, `long h() {}` on 14, and
-- `void k(int p, long q) {}` on 15
abbrev pub f_function : Function
f_function = function (codes "f") (kind.Num num.Long) (long (codes "p") None ∷ long (codes "q") None ∷ []) 10 (on 11 (stmts.Return (Some (joined op.Sub p q))) ∷ [])

abbrev pub g_function : Function
g_function = function (codes "g") (kind.Num num.Int) (long (codes "p") None ∷ []) 12 (on 13 (stmts.Return (Some (joined op.Add p (number 5)))) ∷ [])

abbrev pub h_function : Function
h_function = function (codes "h") (kind.Num num.Long) [] 14 []

abbrev pub k_function : Function
k_function = function (codes "k") kind.Nothing (local (codes "p") (kind.Num num.Int) None ∷ long (codes "q") None ∷ []) 15 []

abbrev pub callees : List Function
callees = f_function ∷ g_function ∷ h_function ∷ k_function ∷ []
