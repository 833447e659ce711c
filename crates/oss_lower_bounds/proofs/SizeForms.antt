-- The size of each form of an expression and of a statement: the equations of the two folds.
use Rattle.std.proofs.Common.{◌≡◌, ℕ, ◌+◌, Bool, List, map, Option, option_map, rules}
use Rattle.oss_syntax.specs.declared.tree.expr.BinOp.{BinOp}
use Rattle.oss_syntax.specs.declared.tree.expr.Expr.{Expr}
use Rattle.oss_syntax.specs.declared.tree.expr.ExprKind.TheFolds.{the_lemmas as expr_folds}
use Rattle.oss_syntax.specs.declared.tree.expr.ExprKind.TheVariants as exprs
use Rattle.oss_syntax.specs.declared.tree.expr.UnOp.{UnOp}
use Rattle.oss_syntax.specs.declared.tree.pragma.Clause.{Clause}
use Rattle.oss_syntax.specs.declared.tree.pragma.Section.{Section}
use Rattle.oss_syntax.specs.declared.tree.pragma.TaskMark.{TaskMark}
use Rattle.oss_syntax.specs.declared.tree.program.Local.{Local}
use Rattle.oss_syntax.specs.declared.tree.stmt.LoopHead.{LoopHead}
use Rattle.oss_syntax.specs.declared.tree.stmt.Stmt.{Stmt}
use Rattle.oss_syntax.specs.declared.tree.stmt.StmtKind.TheFolds.{the_lemmas as stmt_folds}
use Rattle.oss_syntax.specs.declared.tree.stmt.StmtKind.TheVariants as stmts
use Rattle.oss_lower_bounds.specs.Sizes.{clauses_size, expr_size, if_any, locals_size, loop_size, optional_size, stmt_size, total, waits_size}

module _ (line : ℕ) where
  pub size-number : (n : ℕ) (unsigned : Bool) → expr_size (record { what = exprs.Number n unsigned; line = line }) ≡ 1
  size-number n unsigned = search (rules, expr_folds)

  pub size-name : (name : List ℕ) → expr_size (record { what = exprs.Name name; line = line }) ≡ 1
  size-name name = search (rules, expr_folds)

  pub size-index : (a e : Expr) → expr_size (record { what = exprs.Index a e; line = line }) ≡ 1 + (expr_size a + expr_size e)
  size-index a e = search (rules, expr_folds)

  pub size-unary : (o : UnOp) (e : Expr) → expr_size (record { what = exprs.Unary o e; line = line }) ≡ 1 + expr_size e
  size-unary o e = search (rules, expr_folds)

  pub size-binary : (o : BinOp) (a b : Expr) → expr_size (record { what = exprs.Binary o a b; line = line }) ≡ 1 + (expr_size a + expr_size b)
  size-binary o a b = search (rules, expr_folds)

  pub size-applied : (name : List ℕ) (es : List Expr) → expr_size (record { what = exprs.Call name es; line = line }) ≡ 1 + total (map expr_size es)
  size-applied name es = search (rules, expr_folds)

  pub size-block : (body : List Stmt) → stmt_size (record { what = stmts.Block body; line = line }) ≡ 1 + total (map stmt_size body)
  size-block body = search (rules, stmt_folds)

  pub size-empty : stmt_size (record { what = stmts.Empty; line = line }) ≡ 1
  size-empty = search (rules, stmt_folds)

  pub size-declare : (ls : List Local) → stmt_size (record { what = stmts.Declare ls; line = line }) ≡ 1 + locals_size ls
  size-declare ls = search (rules, stmt_folds)

  pub size-assign : (t : Expr) (o : Option BinOp) (e : Expr) → stmt_size (record { what = stmts.Assign t o e; line = line }) ≡ 1 + (expr_size t + expr_size e)
  size-assign t o e = search (rules, stmt_folds)

  pub size-call : (name : List ℕ) (es : List Expr) → stmt_size (record { what = stmts.Call name es; line = line }) ≡ 1 + total (map expr_size es)
  size-call name es = search (rules, stmt_folds)

  pub size-print : (format : List ℕ) (es : List Expr) → stmt_size (record { what = stmts.Print format es; line = line }) ≡ 1 + total (map expr_size es)
  size-print format es = search (rules, stmt_folds)

  pub size-if : (e : Expr) (s : Stmt) (o : Option Stmt) → stmt_size (record { what = stmts.If e s o; line = line }) ≡ 1 + (expr_size e + (stmt_size s + if_any (option_map stmt_size o)))
  size-if e s o = search (rules, stmt_folds)

  pub size-while : (e : Expr) (s : Stmt) → stmt_size (record { what = stmts.While e s; line = line }) ≡ 1 + (expr_size e + stmt_size s)
  size-while e s = search (rules, stmt_folds)

  pub size-for : (f : Option Stmt) (e : Option Expr) (l : Option Stmt) (s : Stmt)
      → stmt_size (record { what = stmts.For f e l s; line = line }) ≡ 1 + (if_any (option_map stmt_size f) + (optional_size e + (if_any (option_map stmt_size l) + stmt_size s)))
  size-for f e l s = search (rules, stmt_folds)

  pub size-return : (e : Option Expr) → stmt_size (record { what = stmts.Return e; line = line }) ≡ 1 + optional_size e
  size-return e = search (rules, stmt_folds)

  pub size-break : stmt_size (record { what = stmts.Break; line = line }) ≡ 1
  size-break = search (rules, stmt_folds)

  pub size-continue : stmt_size (record { what = stmts.Continue; line = line }) ≡ 1
  size-continue = search (rules, stmt_folds)

  pub size-task : (mark : TaskMark) (s : Stmt) → stmt_size (record { what = stmts.Task mark s; line = line }) ≡ 1 + (clauses_size mark.clauses + stmt_size s)
  size-task mark s = search (rules, stmt_folds)

  pub size-task_loop : (head : LoopHead) (s : Stmt)
      → stmt_size (record { what = stmts.TaskLoop head s; line = line }) ≡ loop_size + (optional_size head.variable.first + (expr_size head.end + (clauses_size head.mark.clauses + stmt_size s)))
  size-task_loop head s = search (rules, stmt_folds)

  pub size-wait : (sections : Option (List Section)) → stmt_size (record { what = stmts.TaskWait sections; line = line }) ≡ 1 + waits_size sections
  size-wait sections = search (rules, stmt_folds)

  pub size-release : (clauses : List Clause) → stmt_size (record { what = stmts.Release clauses; line = line }) ≡ 1 + clauses_size clauses
  size-release clauses = search (rules, stmt_folds)
