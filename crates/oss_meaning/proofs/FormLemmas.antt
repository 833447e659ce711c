-- What each form of the language means, by what its parts mean: the equations of the two folds.
use Rattle.std.proofs.Common.{◌≡◌, ℕ, Bool, List, Option, map, option_map, rules}
use Rattle.oss_syntax.specs.declared.tree.expr.BinOp.{BinOp}
use Rattle.oss_syntax.specs.declared.tree.expr.Expr.{Expr}
use Rattle.oss_syntax.specs.declared.tree.expr.ExprKind.TheOpen as open_expr
use Rattle.oss_syntax.specs.declared.tree.expr.ExprKind.TheFolds.{the_lemmas as expr_folds}
use Rattle.oss_syntax.specs.declared.tree.expr.ExprKind.TheVariants as exprs
use Rattle.oss_syntax.specs.declared.tree.expr.UnOp.{UnOp}
use Rattle.oss_syntax.specs.declared.tree.pragma.Clause.{Clause}
use Rattle.oss_syntax.specs.declared.tree.pragma.Section.{Section}
use Rattle.oss_syntax.specs.declared.tree.pragma.TaskMark.{TaskMark}
use Rattle.oss_syntax.specs.declared.tree.program.Item.{Item}
use Rattle.oss_syntax.specs.declared.tree.program.Local.{Local}
use Rattle.oss_syntax.specs.declared.tree.stmt.LoopHead.{LoopHead}
use Rattle.oss_syntax.specs.declared.tree.stmt.Stmt.{Stmt}
use Rattle.oss_syntax.specs.declared.tree.stmt.StmtKind.TheOpen as open_stmt
use Rattle.oss_syntax.specs.declared.tree.stmt.StmtKind.TheFolds.{the_lemmas as stmt_folds}
use Rattle.oss_syntax.specs.declared.tree.stmt.StmtKind.TheVariants as stmts
use Rattle.oss_meaning.specs.Expressions.{expr_step, sense_of}
use Rattle.oss_meaning.specs.Statements.{meaning_of, stmt_step}

module _ (all : List Item) (scope : List Local) (line : ℕ) where
  pub sense-number : (n : ℕ) (unsigned : Bool) → sense_of all scope (record { what = exprs.Number n unsigned; line = line }) ≡ expr_step all scope (open_expr.Number n unsigned)
  sense-number n unsigned = search (rules, expr_folds)

  pub sense-name : (text : List ℕ) → sense_of all scope (record { what = exprs.Name text; line = line }) ≡ expr_step all scope (open_expr.Name text)
  sense-name text = search (rules, expr_folds)

  pub sense-index : (a e : Expr) → sense_of all scope (record { what = exprs.Index a e; line = line }) ≡ expr_step all scope (open_expr.Index (sense_of all scope a) (sense_of all scope e))
  sense-index a e = search (rules, expr_folds)

  pub sense-unary : (o : UnOp) (e : Expr) → sense_of all scope (record { what = exprs.Unary o e; line = line }) ≡ expr_step all scope (open_expr.Unary o (sense_of all scope e))
  sense-unary o e = search (rules, expr_folds)

  pub sense-binary : (o : BinOp) (a b : Expr) → sense_of all scope (record { what = exprs.Binary o a b; line = line }) ≡ expr_step all scope (open_expr.Binary o (sense_of all scope a) (sense_of all scope b))
  sense-binary o a b = search (rules, expr_folds)

  pub sense-call : (text : List ℕ) (es : List Expr) → sense_of all scope (record { what = exprs.Call text es; line = line }) ≡ expr_step all scope (open_expr.Call text (map (sense_of all scope) es))
  sense-call text es = search (rules, expr_folds)

module _ (all : List Item) (line : ℕ) where
  pub meaning-block : (inner : List Stmt) → meaning_of all (record { what = stmts.Block inner; line = line }) ≡ stmt_step all (open_stmt.Block (map (meaning_of all) inner)) line
  meaning-block inner = search (rules, stmt_folds)

  pub meaning-empty : meaning_of all (record { what = stmts.Empty; line = line }) ≡ stmt_step all open_stmt.Empty line
  meaning-empty = search (rules, stmt_folds)

  pub meaning-declare : (ls : List Local) → meaning_of all (record { what = stmts.Declare ls; line = line }) ≡ stmt_step all (open_stmt.Declare ls) line
  meaning-declare ls = search (rules, stmt_folds)

  pub meaning-assign : (t : Expr) (o : Option BinOp) (e : Expr) → meaning_of all (record { what = stmts.Assign t o e; line = line }) ≡ stmt_step all (open_stmt.Assign t o e) line
  meaning-assign t o e = search (rules, stmt_folds)

  pub meaning-call : (text : List ℕ) (es : List Expr) → meaning_of all (record { what = stmts.Call text es; line = line }) ≡ stmt_step all (open_stmt.Call text es) line
  meaning-call text es = search (rules, stmt_folds)

  pub meaning-print : (format : List ℕ) (es : List Expr) → meaning_of all (record { what = stmts.Print format es; line = line }) ≡ stmt_step all (open_stmt.Print format es) line
  meaning-print format es = search (rules, stmt_folds)

  pub meaning-if : (e : Expr) (side : Stmt) (other : Option Stmt) → meaning_of all (record { what = stmts.If e side other; line = line }) ≡ stmt_step all (open_stmt.If e (meaning_of all side) (option_map (meaning_of all) other)) line
  meaning-if e side other = search (rules, stmt_folds)

  pub meaning-while : (e : Expr) (body : Stmt) → meaning_of all (record { what = stmts.While e body; line = line }) ≡ stmt_step all (open_stmt.While e (meaning_of all body)) line
  meaning-while e body = search (rules, stmt_folds)

  pub meaning-for : (first : Option Stmt) (test : Option Expr) (last : Option Stmt) (body : Stmt)
      → meaning_of all (record { what = stmts.For first test last body; line = line })
      ≡ stmt_step all (open_stmt.For (option_map (meaning_of all) first) test (option_map (meaning_of all) last) (meaning_of all body)) line
  meaning-for first test last body = search (rules, stmt_folds)

  pub meaning-return : (e : Option Expr) → meaning_of all (record { what = stmts.Return e; line = line }) ≡ stmt_step all (open_stmt.Return e) line
  meaning-return e = search (rules, stmt_folds)

  pub meaning-break : meaning_of all (record { what = stmts.Break; line = line }) ≡ stmt_step all open_stmt.Break line
  meaning-break = search (rules, stmt_folds)

  pub meaning-continue : meaning_of all (record { what = stmts.Continue; line = line }) ≡ stmt_step all open_stmt.Continue line
  meaning-continue = search (rules, stmt_folds)

  pub meaning-task : (mark : TaskMark) (body : Stmt) → meaning_of all (record { what = stmts.Task mark body; line = line }) ≡ stmt_step all (open_stmt.Task mark (meaning_of all body)) line
  meaning-task mark body = search (rules, stmt_folds)

  pub meaning-task_loop : (head : LoopHead) (body : Stmt) → meaning_of all (record { what = stmts.TaskLoop head body; line = line }) ≡ stmt_step all (open_stmt.TaskLoop head (meaning_of all body)) line
  meaning-task_loop head body = search (rules, stmt_folds)

  pub meaning-task_wait : (sections : Option (List Section)) → meaning_of all (record { what = stmts.TaskWait sections; line = line }) ≡ stmt_step all (open_stmt.TaskWait sections) line
  meaning-task_wait sections = search (rules, stmt_folds)

  pub meaning-release : (clauses : List Clause) → meaning_of all (record { what = stmts.Release clauses; line = line }) ≡ stmt_step all (open_stmt.Release clauses) line
  meaning-release clauses = search (rules, stmt_folds)

-- what each form of an expression means, for `simp`
pub ruleset expression_forms = (sense-number, sense-name, sense-index, sense-unary, sense-binary, sense-call)

-- what each form of a statement means, for `simp`
pub ruleset statement_forms = (
  meaning-block,
  meaning-empty,
  meaning-declare,
  meaning-assign,
  meaning-call,
  meaning-print,
  meaning-if,
  meaning-while,
  meaning-for,
  meaning-return,
  meaning-break,
  meaning-continue,
  meaning-task,
  meaning-task_loop,
  meaning-task_wait,
  meaning-release,
)

-- what each form means, for `simp`
pub ruleset forms = (expression_forms, statement_forms)
