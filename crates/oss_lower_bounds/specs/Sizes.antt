-- How much of a program there is: each expression, section, clause, local, statement and item counts for one more than its parts, but the variable of
-- a multidependency, of which its first value alone counts. A task loop counts for no less than what it is written out as.
-- Read against: `x + 1` has the size 3, `f(x, 1)` too, and `x` 1; `if (x) y = 1;` has 5, which is 1, 1 of `x` and 3 of the assignment; `long x, a[3];`
-- as two globals has 2.
use Rattle.std.specs.Prelude.{ℕ, ◌+◌, List, [], ◌∷◌, length, map, Option, Some, None}
use Rattle.oss_syntax.specs.declared.tree.expr.Expr.{Expr}
use Rattle.oss_syntax.specs.declared.tree.expr.ExprKind.TheOpen.{ExprKind-F, Expr-F}
use Rattle.oss_syntax.specs.declared.tree.expr.ExprKind.TheOpen as open_expr
use Rattle.oss_syntax.specs.declared.tree.expr.ExprKind.TheFolds.{fold-Expr}
use Rattle.oss_syntax.specs.declared.tree.pragma.Clause.{Clause}
use Rattle.oss_syntax.specs.declared.tree.pragma.Clause.TheVariants as clause
use Rattle.oss_syntax.specs.declared.tree.pragma.Form.{Form}
use Rattle.oss_syntax.specs.declared.tree.pragma.Form.TheVariants as form
use Rattle.oss_syntax.specs.declared.tree.pragma.Inner.{Inner}
use Rattle.oss_syntax.specs.declared.tree.pragma.Inner.TheVariants as inner
use Rattle.oss_syntax.specs.declared.tree.pragma.Section.{Section}
use Rattle.oss_syntax.specs.declared.tree.pragma.TaskMark.{TaskMark}
use Rattle.oss_syntax.specs.declared.tree.program.Function.{Function}
use Rattle.oss_syntax.specs.declared.tree.program.Item.{Item}
use Rattle.oss_syntax.specs.declared.tree.program.Item.TheVariants as items
use Rattle.oss_syntax.specs.declared.tree.program.Local.{Local}
use Rattle.oss_syntax.specs.declared.tree.stmt.Stmt.{Stmt}
use Rattle.oss_syntax.specs.declared.tree.stmt.StmtKind.TheOpen.{StmtKind-F, Stmt-F}
use Rattle.oss_syntax.specs.declared.tree.stmt.StmtKind.TheOpen as open_stmt
use Rattle.oss_syntax.specs.declared.tree.stmt.StmtKind.TheFolds.{fold-Stmt}

-- all of these together
abbrev pub total : List ℕ → ℕ
total [] = 0
total (n ∷ rest) = n + total rest

-- one that may be left out
abbrev pub if_any : Option ℕ → ℕ
if_any None = 0
if_any (Some n) = n

-- Expressions

-- an expression, from the sizes of its parts
abbrev pub expr_counts : ExprKind-F ℕ ℕ → ℕ
expr_counts (open_expr.Number n unsigned) = 1
expr_counts (open_expr.Name name) = 1
expr_counts (open_expr.Index a e) = 1 + (a + e)
expr_counts (open_expr.Unary o e) = 1 + e
expr_counts (open_expr.Binary o a b) = 1 + (a + b)
expr_counts (open_expr.Call name es) = 1 + total es

-- an expression
abbrev pub expr_size : Expr → ℕ
expr_size = fold-Expr ℕ ℕ expr_counts (λ e. e.what)

-- one that may be left out
abbrev pub optional_size : Option Expr → ℕ
optional_size None = 0
optional_size (Some e) = expr_size e

-- Sections and clauses

-- what stands between the brackets of one dimension
abbrev pub inner_size : Inner → ℕ
inner_size (inner.Element e) = expr_size e
inner_size (inner.Length e n) = expr_size e + expr_size n
inner_size (inner.Span l u) = optional_size l + optional_size u

-- the expressions of a section
abbrev pub form_size : Form → ℕ
form_size form.Whole = 0
form_size form.Deref = 0
form_size (form.Shape n) = expr_size n
form_size (form.Element e) = expr_size e
form_size (form.Length e n) = expr_size e + expr_size n
form_size (form.Span l u) = optional_size l + optional_size u
form_size (form.Grid rows columns) = inner_size rows + inner_size columns
form_size (form.Many e f turns) = expr_size e + (optional_size f + (optional_size turns.variable.first + expr_size turns.count))

-- sections
abbrev pub sections_size : List Section → ℕ
sections_size [] = 0
sections_size (s ∷ rest) = 1 + (form_size s.form + sections_size rest)

-- a clause
abbrev pub clause_size : Clause → ℕ
clause_size (clause.Depend mode strong fresh sections) = 1 + sections_size sections
clause_size (clause.If e) = 1 + expr_size e
clause_size (clause.Final e) = 1 + expr_size e
clause_size clause.Wait = 1
clause_size (clause.Label text) = 1
clause_size (clause.Priority e) = 1 + expr_size e
clause_size (clause.Grain e) = 1 + expr_size e

-- clauses
abbrev pub clauses_size : List Clause → ℕ
clauses_size [] = 0
clauses_size (c ∷ rest) = clause_size c + clauses_size rest

-- those of a task function
abbrev pub mark_size : Option TaskMark → ℕ
mark_size None = 0
mark_size (Some mark) = clauses_size mark.clauses

-- the sections of a `taskwait`, if it has some
abbrev pub waits_size : Option (List Section) → ℕ
waits_size None = 0
waits_size (Some sections) = sections_size sections

-- Statements

-- locals with their first values
abbrev pub locals_size : List Local → ℕ
locals_size [] = 0
locals_size (l ∷ rest) = 1 + (optional_size l.first + locals_size rest)

-- what is written around the parts of a task loop counts for no more than this
abbrev pub loop_size : ℕ
loop_size = 48

-- a statement, from the sizes of its parts
abbrev pub stmt_counts : StmtKind-F (ℕ → ℕ) ℕ → ℕ → ℕ
stmt_counts (open_stmt.Block body) line = 1 + total body
stmt_counts open_stmt.Empty line = 1
stmt_counts (open_stmt.Declare ls) line = 1 + locals_size ls
stmt_counts (open_stmt.Assign t o e) line = 1 + (expr_size t + expr_size e)
stmt_counts (open_stmt.Call name es) line = 1 + total (map expr_size es)
stmt_counts (open_stmt.Print format es) line = 1 + total (map expr_size es)
stmt_counts (open_stmt.If e side other) line = 1 + (expr_size e + (side + if_any other))
stmt_counts (open_stmt.While e body) line = 1 + (expr_size e + body)
stmt_counts (open_stmt.For first test last body) line = 1 + (if_any first + (optional_size test + (if_any last + body)))
stmt_counts (open_stmt.Return e) line = 1 + optional_size e
stmt_counts open_stmt.Break line = 1
stmt_counts open_stmt.Continue line = 1
stmt_counts (open_stmt.Task mark body) line = 1 + (clauses_size mark.clauses + body)
stmt_counts (open_stmt.TaskLoop head body) line =
    loop_size + (optional_size head.variable.first + (expr_size head.end + (clauses_size head.mark.clauses + body)))
stmt_counts (open_stmt.TaskWait sections) line = 1 + waits_size sections
stmt_counts (open_stmt.Release clauses) line = 1 + clauses_size clauses

-- a statement
abbrev pub stmt_size : Stmt → ℕ
stmt_size = fold-Stmt (ℕ → ℕ) ℕ stmt_counts (λ s. s.what s.line)

-- Programs

-- the statements of a body
abbrev pub body_size : List Stmt → ℕ
body_size ss = total (map stmt_size ss)

-- a function
abbrev pub function_size : Function → ℕ
function_size f = 1 + (locals_size f.params + (mark_size f.mark + body_size f.body))

-- a global or a function
abbrev pub item_size : Item → ℕ
item_size (items.Global g) = 1
item_size (items.Function f) = function_size f

-- a program
abbrev pub items_size : List Item → ℕ
items_size [] = 0
items_size (x ∷ rest) = item_size x + items_size rest

-- Locals

-- how many locals a statement declares, from those of the statements in it; a task loop has its variable, and four that no text names
abbrev pub declared_counts : StmtKind-F (ℕ → ℕ) ℕ → ℕ → ℕ
declared_counts (open_stmt.Block body) line = total body
declared_counts (open_stmt.Declare ls) line = length ls
declared_counts (open_stmt.If e side other) line = side + if_any other
declared_counts (open_stmt.While e body) line = body
declared_counts (open_stmt.For first test last body) line = if_any first + (if_any last + body)
declared_counts (open_stmt.Task mark body) line = body
declared_counts (open_stmt.TaskLoop head body) line = 5 + body
declared_counts _ line = 0

-- how many locals a statement declares in all
abbrev pub stmt_locals : Stmt → ℕ
stmt_locals = fold-Stmt (ℕ → ℕ) ℕ declared_counts (λ s. s.what s.line)

-- how many locals a function has: its parameters, and those that its statements declare
abbrev pub function_locals : Function → ℕ
function_locals f = length f.params + total (map stmt_locals f.body)
