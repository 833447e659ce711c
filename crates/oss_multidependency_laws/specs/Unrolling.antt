-- A multidependency whose first value and number of turns are signed literals, unrolled: the sections of its turns stand in its place, in each
-- of them the number of that turn in place of the variable (OmpSs-2, multidependencies).
-- Read against: `in({ a[k * 2], k = 0; 4 })` is `in(a[0 * 2], a[1 * 2], a[2 * 2], a[3 * 2])`; `{ m[1][k], k = 2; 2 }` is `m[1][2], m[1][3]`. `{ a[k], k = 0; n }` stays,
-- since `n` is no literal, and so do `{ a[k], k = 0; 0 }` and `{ a[k], k = 0u; 4 }`.
use Rattle.std.specs.Prelude.{ℕ, zero, suc, ◌+◌, nat_le, Bool, true, false, ◌&&◌, if◌then◌else◌, List, [], ◌∷◌, ◌++◌, map, Option, Some, None, option_map}
use Rattle.std.specs.Str.{bytes_eq}
use Rattle.oss_syntax.specs.declared.tree.expr.Expr.{Expr}
use Rattle.oss_syntax.specs.declared.tree.expr.ExprKind.{ExprKind}
use Rattle.oss_syntax.specs.declared.tree.expr.ExprKind.TheVariants as exprs
use Rattle.oss_syntax.specs.declared.tree.expr.ExprKind.TheOpen.{ExprKind-F, Expr-F}
use Rattle.oss_syntax.specs.declared.tree.expr.ExprKind.TheOpen as open_expr
use Rattle.oss_syntax.specs.declared.tree.expr.ExprKind.TheFolds.{fold-Expr}
use Rattle.oss_syntax.specs.declared.tree.pragma.Clause.{Clause}
use Rattle.oss_syntax.specs.declared.tree.pragma.Clause.TheVariants as clause
use Rattle.oss_syntax.specs.declared.tree.pragma.Form.{Form}
use Rattle.oss_syntax.specs.declared.tree.pragma.Form.TheVariants as form
use Rattle.oss_syntax.specs.declared.tree.pragma.Inner.TheVariants as inner
use Rattle.oss_syntax.specs.declared.tree.pragma.Section.{Section}
use Rattle.oss_syntax.specs.declared.tree.pragma.TaskMark.{TaskMark}
use Rattle.oss_syntax.specs.declared.tree.pragma.Turns.{Turns}
use Rattle.oss_syntax.specs.declared.tree.program.Function.{Function}
use Rattle.oss_syntax.specs.declared.tree.program.Item.{Item}
use Rattle.oss_syntax.specs.declared.tree.program.Item.TheVariants as items
use Rattle.oss_syntax.specs.declared.tree.program.Kind.{Kind}
use Rattle.oss_syntax.specs.declared.tree.program.Kind.TheVariants as kind
use Rattle.oss_syntax.specs.declared.tree.program.NumKind.TheVariants as num
use Rattle.oss_syntax.specs.declared.tree.program.Program.{Program}
use Rattle.oss_syntax.specs.declared.tree.stmt.Stmt.{Stmt}
use Rattle.oss_syntax.specs.declared.tree.stmt.StmtKind.{StmtKind}
use Rattle.oss_syntax.specs.declared.tree.stmt.StmtKind.TheOpen.{StmtKind-F, Stmt-F}
use Rattle.oss_syntax.specs.declared.tree.stmt.StmtKind.TheOpen as open_stmt
use Rattle.oss_syntax.specs.declared.tree.stmt.StmtKind.TheFolds.{fold-Stmt}
use Rattle.oss_syntax.specs.declared.tree.stmt.StmtKind.TheVariants as stmts
use Rattle.oss_grammar.specs.SectionCells.{most_turns}

-- A number in place of a name

-- an expression on this line
abbrev pub expr_at : ℕ → ExprKind → Expr
expr_at line what = record { what = what; line = line }

-- the name, or the number if it is this name
abbrev pub name_or_number : Bool → List ℕ → ℕ → ExprKind
name_or_number true text k = exprs.Number k false
name_or_number false text k = exprs.Name text

-- an expression, from its parts in which the number stands already; the name of a function that is called is no variable
abbrev pub spelled_step : List ℕ → ℕ → ExprKind-F (ℕ → Expr) Expr → ℕ → Expr
spelled_step name k (open_expr.Number n unsigned) line = expr_at line (exprs.Number n unsigned)
spelled_step name k (open_expr.Name text) line = expr_at line (name_or_number (bytes_eq name text) text k)
spelled_step name k (open_expr.Index a e) line = expr_at line (exprs.Index a e)
spelled_step name k (open_expr.Unary o e) line = expr_at line (exprs.Unary o e)
spelled_step name k (open_expr.Binary o a b) line = expr_at line (exprs.Binary o a b)
spelled_step name k (open_expr.Call text es) line = expr_at line (exprs.Call text es)

-- an expression with this number, signed, in place of this name: with 3 for `k`, `k * f(k)` is `3 * f(3)`
abbrev pub spelled : List ℕ → ℕ → Expr → Expr
spelled name k = fold-Expr (ℕ → Expr) Expr (spelled_step name k) (λ e. e.what e.line)

-- Which multidependencies are unrolled

-- the number of a literal that is signed
abbrev pub literal_step : ExprKind-F (Option ℕ) (Option ℕ) → Option ℕ
literal_step (open_expr.Number n false) = Some n
literal_step _ = None

-- the number that an expression is, if it is a signed literal: `7` is, and neither `7u` nor `7 + 0`
abbrev pub literal : Expr → Option ℕ
literal = fold-Expr (Option ℕ) (Option ℕ) literal_step (λ e. e.what)

-- the first value of a variable, if it is a signed literal
abbrev pub first_literal : Option Expr → Option ℕ
first_literal None = None
first_literal (Some e) = literal e

-- the variable is a signed number
abbrev pub is_signed : Kind → Bool
is_signed (kind.Num num.Int) = true
is_signed (kind.Num num.Long) = true
is_signed _ = false

-- there is a turn, there are no more than a multidependency may have, and the variable stays a signed number
abbrev pub are_few : ℕ → ℕ → Bool
are_few l n = nat_le 1 n && (nat_le n most_turns && nat_le (l + n) 9223372036854775807)

-- a first value and a number of turns, if they are few
abbrev pub few_turns : Bool → ℕ → ℕ → Option (ℕ × ℕ)
few_turns true l n = Some (l, n)
few_turns false l n = None

-- the same of two that may be no literals
abbrev pub both_literals : Option ℕ → Option ℕ → Option (ℕ × ℕ)
both_literals (Some l) (Some n) = few_turns (are_few l n) l n
both_literals _ _ = None

-- the first value and the number of turns of a multidependency that can be unrolled
abbrev pub literal_turns : Turns → Option (ℕ × ℕ)
literal_turns t = if is_signed t.variable.kind then both_literals (first_literal t.variable.first) (literal t.count) else None

-- What stands in their place

-- one element, or the element of a row
abbrev pub element_form : Expr → Option Expr → Form
element_form e None = form.Element e
element_form e (Some f) = form.Grid (inner.Element e) (inner.Element f)

-- the section of the turn in which the variable is this number
abbrev pub turn_section : Section → Expr → Option Expr → List ℕ → ℕ → Section
turn_section s e f name k = record {
  base = s.base;
  form = element_form (spelled name k e) (option_map (spelled name k) f);
  line = s.base_line;
  base_line = s.base_line;
}

-- the sections of so many turns, in the first of which the variable is this number
abbrev pub turn_sections : Section → Expr → Option Expr → List ℕ → ℕ → ℕ → List Section
turn_sections s e f name k zero = []
turn_sections s e f name k (suc more) = turn_section s e f name k ∷ turn_sections s e f name (k + 1) more

-- a multidependency by its turns; without literals it stays
abbrev pub written_turns : Section → Expr → Option Expr → List ℕ → Option (ℕ × ℕ) → List Section
written_turns s e f name None = s ∷ []
written_turns s e f name (Some turns) = turn_sections s e f name turns.0 turns.1

-- A section of this form: a multidependency that is chosen is unrolled. Which are chosen is left open: any of a program may be.
abbrev pub unrolled_form : (Section → Bool) → Section → Form → List Section
unrolled_form chosen s (form.Many e f turns) = if chosen s then written_turns s e f turns.variable.name (literal_turns turns) else s ∷ []
unrolled_form chosen s _ = s ∷ []

abbrev pub unrolled_sections : (Section → Bool) → List Section → List Section
unrolled_sections chosen [] = []
unrolled_sections chosen (s ∷ rest) = unrolled_form chosen s s.form ++ unrolled_sections chosen rest

abbrev pub unrolled_clause : (Section → Bool) → Clause → Clause
unrolled_clause chosen (clause.Depend mode strong fresh sections) = clause.Depend mode strong fresh (unrolled_sections chosen sections)
unrolled_clause chosen c = c

abbrev pub unrolled_clauses : (Section → Bool) → List Clause → List Clause
unrolled_clauses chosen [] = []
unrolled_clauses chosen (c ∷ rest) = unrolled_clause chosen c ∷ unrolled_clauses chosen rest

abbrev pub unrolled_mark : (Section → Bool) → TaskMark → TaskMark
unrolled_mark chosen mark = record { clauses = unrolled_clauses chosen mark.clauses; line = mark.line }

-- Programs

-- a statement on this line
abbrev pub stmt_at : ℕ → StmtKind → Stmt
stmt_at line what = record { what = what; line = line }

-- The statements of a layer, with those inside unrolled already: the clauses of tasks and releases are unrolled, and the sections of waits.
abbrev pub unrolled_step : (Section → Bool) → StmtKind-F (ℕ → Stmt) Stmt → ℕ → Stmt
unrolled_step chosen (open_stmt.Block body) line = stmt_at line (stmts.Block body)
unrolled_step chosen open_stmt.Empty line = stmt_at line stmts.Empty
unrolled_step chosen (open_stmt.Declare locals) line = stmt_at line (stmts.Declare locals)
unrolled_step chosen (open_stmt.Assign target o e) line = stmt_at line (stmts.Assign target o e)
unrolled_step chosen (open_stmt.Call name es) line = stmt_at line (stmts.Call name es)
unrolled_step chosen (open_stmt.Print format es) line = stmt_at line (stmts.Print format es)
unrolled_step chosen (open_stmt.If e branch other) line = stmt_at line (stmts.If e branch other)
unrolled_step chosen (open_stmt.While e body) line = stmt_at line (stmts.While e body)
unrolled_step chosen (open_stmt.For start test step body) line = stmt_at line (stmts.For start test step body)
unrolled_step chosen (open_stmt.Return e) line = stmt_at line (stmts.Return e)
unrolled_step chosen open_stmt.Break line = stmt_at line stmts.Break
unrolled_step chosen open_stmt.Continue line = stmt_at line stmts.Continue
unrolled_step chosen (open_stmt.Task mark body) line = stmt_at line (stmts.Task (unrolled_mark chosen mark) body)
unrolled_step chosen (open_stmt.TaskLoop head body) line = stmt_at line (stmts.TaskLoop (record head { mark = unrolled_mark chosen head.mark }) body)
unrolled_step chosen (open_stmt.TaskWait sections) line = stmt_at line (stmts.TaskWait (option_map (unrolled_sections chosen) sections))
unrolled_step chosen (open_stmt.Release clauses) line = stmt_at line (stmts.Release (unrolled_clauses chosen clauses))

-- a statement with each chosen multidependency in its pragmas unrolled
abbrev pub unrolled : (Section → Bool) → Stmt → Stmt
unrolled chosen = fold-Stmt (ℕ → Stmt) Stmt (unrolled_step chosen) (λ s. s.what s.line)

-- a function; that of a task has clauses of its own
abbrev pub function_unrolled : (Section → Bool) → Function → Function
function_unrolled chosen f = record f { mark = option_map (unrolled_mark chosen) f.mark; body = map (unrolled chosen) f.body }

-- a global or a function
abbrev pub item_unrolled : (Section → Bool) → Item → Item
item_unrolled chosen (items.Global g) = items.Global g
item_unrolled chosen (items.Function f) = items.Function (function_unrolled chosen f)

-- A program with each chosen multidependency unrolled; with all chosen, each that has literals.
-- Read against: of `long a[4]; int main() { task out({ a[k], k = 0; 2 }) { a[0] = 1; a[1] = 2; } taskwait on({ a[k], k = 0; 2 }); }` it is `long a[4]; int main() { task out(a[0], a[1]) { a[0] = 1; a[1] =
-- 2; } taskwait on(a[0], a[1]); }`. A local or global `k` of the program means what it meant: in `task in({ a[k], k = 0; 2 }, a[k])` the last section stays.
abbrev pub items_unrolled : (Section → Bool) → List Item → List Item
items_unrolled chosen = map (item_unrolled chosen)

abbrev pub program_unrolled : (Section → Bool) → Program → Program
program_unrolled chosen p = record { items = items_unrolled chosen p.items }
