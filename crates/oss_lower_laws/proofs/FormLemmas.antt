-- What each form of the language becomes, by what its parts become: the equations of the two folds.
use Rattle.std.proofs.Common.{◌≡◌, ℕ, Bool, List, Option, map, option_map, rules}
use Rattle.oss_syntax.specs.declared.tree.expr.BinOp.{BinOp}
use Rattle.oss_syntax.specs.declared.tree.expr.Expr.{Expr}
use Rattle.oss_syntax.specs.declared.tree.expr.ExprKind.TheOpen as open_expr
use Rattle.oss_syntax.specs.declared.tree.expr.ExprKind.TheFolds.{the_lemmas as expr_folds}
use Rattle.oss_syntax.specs.declared.tree.expr.ExprKind.TheVariants as exprs
use Rattle.oss_syntax.specs.declared.tree.expr.UnOp.{UnOp}
use Rattle.oss_syntax.specs.declared.tree.pragma.Clause.{Clause}
use Rattle.oss_syntax.specs.declared.tree.pragma.Section.{Section}
use Rattle.oss_syntax.specs.declared.tree.pragma.TaskMark.{TaskMark}
use Rattle.oss_syntax.specs.declared.tree.program.Item.{Item}
use Rattle.oss_syntax.specs.declared.tree.program.Local.{Local}
use Rattle.oss_syntax.specs.declared.tree.stmt.LoopHead.{LoopHead}
use Rattle.oss_syntax.specs.declared.tree.stmt.Stmt.{Stmt}
use Rattle.oss_syntax.specs.declared.tree.stmt.StmtKind.TheOpen as open_stmt
use Rattle.oss_syntax.specs.declared.tree.stmt.StmtKind.TheFolds.{the_lemmas as stmt_folds}
use Rattle.oss_syntax.specs.declared.tree.stmt.StmtKind.TheVariants as stmts
use Rattle.oss_lower_laws.specs.ExpressionCode.{expr_code, expr_code_step}
use Rattle.oss_lower_laws.specs.StatementCode.{stmt_code, stmt_code_step}

module _ (all : List Item) (scope : List Local) (line : ℕ) where
  pub value-number : (n : ℕ) (unsigned : Bool) → expr_code all scope (record { what = exprs.Number n unsigned; line = line }) ≡ expr_code_step all scope (open_expr.Number n unsigned)
  value-number n unsigned = search (rules, expr_folds)

  pub value-name : (text : List ℕ) → expr_code all scope (record { what = exprs.Name text; line = line }) ≡ expr_code_step all scope (open_expr.Name text)
  value-name text = search (rules, expr_folds)

  pub value-index : (a e : Expr) → expr_code all scope (record { what = exprs.Index a e; line = line }) ≡ expr_code_step all scope (open_expr.Index (expr_code all scope a) (expr_code all scope e))
  value-index a e = search (rules, expr_folds)

  pub value-unary : (o : UnOp) (e : Expr) → expr_code all scope (record { what = exprs.Unary o e; line = line }) ≡ expr_code_step all scope (open_expr.Unary o (expr_code all scope e))
  value-unary o e = search (rules, expr_folds)

  pub value-binary : (o : BinOp) (a b : Expr) → expr_code all scope (record { what = exprs.Binary o a b; line = line }) ≡ expr_code_step all scope (open_expr.Binary o (expr_code all scope a) (expr_code all scope b))
  value-binary o a b = search (rules, expr_folds)

  pub value-call : (text : List ℕ) (es : List Expr) → expr_code all scope (record { what = exprs.Call text es; line = line }) ≡ expr_code_step all scope (open_expr.Call text (map (expr_code all scope) es))
  value-call text es = search (rules, expr_folds)

module _ (all : List Item) (line : ℕ) where
  pub code-block : (inner : List Stmt) → stmt_code all (record { what = stmts.Block inner; line = line }) ≡ stmt_code_step all (open_stmt.Block (map (stmt_code all) inner)) line
  code-block inner = search (rules, stmt_folds)

  pub code-empty : stmt_code all (record { what = stmts.Empty; line = line }) ≡ stmt_code_step all open_stmt.Empty line
  code-empty = search (rules, stmt_folds)

  pub code-declare : (ls : List Local) → stmt_code all (record { what = stmts.Declare ls; line = line }) ≡ stmt_code_step all (open_stmt.Declare ls) line
  code-declare ls = search (rules, stmt_folds)

  pub code-assign : (t : Expr) (o : Option BinOp) (e : Expr) → stmt_code all (record { what = stmts.Assign t o e; line = line }) ≡ stmt_code_step all (open_stmt.Assign t o e) line
  code-assign t o e = search (rules, stmt_folds)

  pub code-call : (text : List ℕ) (es : List Expr) → stmt_code all (record { what = stmts.Call text es; line = line }) ≡ stmt_code_step all (open_stmt.Call text es) line
  code-call text es = search (rules, stmt_folds)

  pub code-print : (format : List ℕ) (es : List Expr) → stmt_code all (record { what = stmts.Print format es; line = line }) ≡ stmt_code_step all (open_stmt.Print format es) line
  code-print format es = search (rules, stmt_folds)

  pub code-if : (e : Expr) (side : Stmt) (other : Option Stmt) → stmt_code all (record { what = stmts.If e side other; line = line }) ≡ stmt_code_step all (open_stmt.If e (stmt_code all side) (option_map (stmt_code all) other)) line
  code-if e side other = search (rules, stmt_folds)

  pub code-while : (e : Expr) (body : Stmt) → stmt_code all (record { what = stmts.While e body; line = line }) ≡ stmt_code_step all (open_stmt.While e (stmt_code all body)) line
  code-while e body = search (rules, stmt_folds)

  pub code-for : (first : Option Stmt) (test : Option Expr) (last : Option Stmt) (body : Stmt)
      → stmt_code all (record { what = stmts.For first test last body; line = line })
      ≡ stmt_code_step all (open_stmt.For (option_map (stmt_code all) first) test (option_map (stmt_code all) last) (stmt_code all body)) line
  code-for first test last body = search (rules, stmt_folds)

  pub code-return : (e : Option Expr) → stmt_code all (record { what = stmts.Return e; line = line }) ≡ stmt_code_step all (open_stmt.Return e) line
  code-return e = search (rules, stmt_folds)

  pub code-break : stmt_code all (record { what = stmts.Break; line = line }) ≡ stmt_code_step all open_stmt.Break line
  code-break = search (rules, stmt_folds)

  pub code-continue : stmt_code all (record { what = stmts.Continue; line = line }) ≡ stmt_code_step all open_stmt.Continue line
  code-continue = search (rules, stmt_folds)

  pub code-task : (mark : TaskMark) (body : Stmt) → stmt_code all (record { what = stmts.Task mark body; line = line }) ≡ stmt_code_step all (open_stmt.Task mark (stmt_code all body)) line
  code-task mark body = search (rules, stmt_folds)

  pub code-task_loop : (head : LoopHead) (body : Stmt) → stmt_code all (record { what = stmts.TaskLoop head body; line = line }) ≡ stmt_code_step all (open_stmt.TaskLoop head (stmt_code all body)) line
  code-task_loop head body = search (rules, stmt_folds)

  pub code-task_wait : (sections : Option (List Section)) → stmt_code all (record { what = stmts.TaskWait sections; line = line }) ≡ stmt_code_step all (open_stmt.TaskWait sections) line
  code-task_wait sections = search (rules, stmt_folds)

  pub code-release : (clauses : List Clause) → stmt_code all (record { what = stmts.Release clauses; line = line }) ≡ stmt_code_step all (open_stmt.Release clauses) line
  code-release clauses = search (rules, stmt_folds)

-- what each form of an expression becomes, for `simp`
pub ruleset expression_forms = (value-number, value-name, value-index, value-unary, value-binary, value-call)

-- what each form of a statement becomes, for `simp`
pub ruleset statement_forms = (
  code-block,
  code-empty,
  code-declare,
  code-assign,
  code-call,
  code-print,
  code-if,
  code-while,
  code-for,
  code-return,
  code-break,
  code-continue,
  code-task,
  code-task_loop,
  code-task_wait,
  code-release,
)

-- what each form becomes, for `simp`
pub ruleset forms = (expression_forms, statement_forms)
