-- Whether the releases of a statement have dependencies alone, by forms; and what each form is written out as.
use Rattle.std.proofs.Common.{◌≡◌, ℕ, true, List, map, Option, option_map, rules}
use Rattle.std.specs.Prelude.{◌&&◌}
use Rattle.oss_syntax.specs.declared.tree.expr.BinOp.{BinOp}
use Rattle.oss_syntax.specs.declared.tree.expr.Expr.{Expr}
use Rattle.oss_syntax.specs.declared.tree.pragma.Clause.{Clause}
use Rattle.oss_syntax.specs.declared.tree.pragma.Section.{Section}
use Rattle.oss_syntax.specs.declared.tree.pragma.TaskMark.{TaskMark}
use Rattle.oss_syntax.specs.declared.tree.program.Local.{Local}
use Rattle.oss_syntax.specs.declared.tree.stmt.LoopHead.{LoopHead}
use Rattle.oss_syntax.specs.declared.tree.stmt.Stmt.{Stmt}
use Rattle.oss_syntax.specs.declared.tree.stmt.StmtKind.TheFolds.{the_lemmas as stmt_folds}
use Rattle.oss_syntax.specs.declared.tree.stmt.StmtKind.TheVariants as stmts
use Rattle.oss_grammar.specs.TaskLoops.{written, written_out}
use Rattle.oss_missing_program_laws.specs.Asks.{are_dependencies, body_releases, part_holds, releases_dependencies}

module _ (line : ℕ) where
  -- Releases

  pub releases-block : (body : List Stmt) → releases_dependencies (record { what = stmts.Block body; line = line }) ≡ body_releases body
  releases-block body = search (rules, stmt_folds)

  pub releases-empty : releases_dependencies (record { what = stmts.Empty; line = line }) ≡ true
  releases-empty = search (rules, stmt_folds)

  pub releases-declare : (ls : List Local) → releases_dependencies (record { what = stmts.Declare ls; line = line }) ≡ true
  releases-declare ls = search (rules, stmt_folds)

  pub releases-assign : (t : Expr) (o : Option BinOp) (e : Expr) → releases_dependencies (record { what = stmts.Assign t o e; line = line }) ≡ true
  releases-assign t o e = search (rules, stmt_folds)

  pub releases-call : (name : List ℕ) (es : List Expr) → releases_dependencies (record { what = stmts.Call name es; line = line }) ≡ true
  releases-call name es = search (rules, stmt_folds)

  pub releases-print : (format : List ℕ) (es : List Expr) → releases_dependencies (record { what = stmts.Print format es; line = line }) ≡ true
  releases-print format es = search (rules, stmt_folds)

  pub releases-if : (e : Expr) (s : Stmt) (o : Option Stmt) → releases_dependencies (record { what = stmts.If e s o; line = line }) ≡ (releases_dependencies s && part_holds (option_map releases_dependencies o))
  releases-if e s o = search (rules, stmt_folds)

  pub releases-while : (e : Expr) (s : Stmt) → releases_dependencies (record { what = stmts.While e s; line = line }) ≡ releases_dependencies s
  releases-while e s = search (rules, stmt_folds)

  pub releases-for : (f : Option Stmt) (e : Option Expr) (l : Option Stmt) (s : Stmt) → releases_dependencies (record { what = stmts.For f e l s; line = line }) ≡ (part_holds (option_map releases_dependencies f) && (part_holds (option_map releases_dependencies l) && releases_dependencies s))
  releases-for f e l s = search (rules, stmt_folds)

  pub releases-return : (e : Option Expr) → releases_dependencies (record { what = stmts.Return e; line = line }) ≡ true
  releases-return e = search (rules, stmt_folds)

  pub releases-break : releases_dependencies (record { what = stmts.Break; line = line }) ≡ true
  releases-break = search (rules, stmt_folds)

  pub releases-continue : releases_dependencies (record { what = stmts.Continue; line = line }) ≡ true
  releases-continue = search (rules, stmt_folds)

  pub releases-task : (mark : TaskMark) (s : Stmt) → releases_dependencies (record { what = stmts.Task mark s; line = line }) ≡ releases_dependencies s
  releases-task mark s = search (rules, stmt_folds)

  pub releases-wait : (sections : Option (List Section)) → releases_dependencies (record { what = stmts.TaskWait sections; line = line }) ≡ true
  releases-wait sections = search (rules, stmt_folds)

  pub releases-release : (clauses : List Clause) → releases_dependencies (record { what = stmts.Release clauses; line = line }) ≡ are_dependencies clauses
  releases-release clauses = search (rules, stmt_folds)

  -- Statements written out

  pub written-block : (body : List Stmt) → written_out (record { what = stmts.Block body; line = line }) ≡ record { what = stmts.Block (map written_out body); line = line }
  written-block body = search (rules, stmt_folds)

  pub written-empty : written_out (record { what = stmts.Empty; line = line }) ≡ record { what = stmts.Empty; line = line }
  written-empty = search (rules, stmt_folds)

  pub written-declare : (ls : List Local) → written_out (record { what = stmts.Declare ls; line = line }) ≡ record { what = stmts.Declare ls; line = line }
  written-declare ls = search (rules, stmt_folds)

  pub written-assign : (t : Expr) (o : Option BinOp) (e : Expr) → written_out (record { what = stmts.Assign t o e; line = line }) ≡ record { what = stmts.Assign t o e; line = line }
  written-assign t o e = search (rules, stmt_folds)

  pub written-call : (name : List ℕ) (es : List Expr) → written_out (record { what = stmts.Call name es; line = line }) ≡ record { what = stmts.Call name es; line = line }
  written-call name es = search (rules, stmt_folds)

  pub written-print : (format : List ℕ) (es : List Expr) → written_out (record { what = stmts.Print format es; line = line }) ≡ record { what = stmts.Print format es; line = line }
  written-print format es = search (rules, stmt_folds)

  pub written-if : (e : Expr) (s : Stmt) (o : Option Stmt) → written_out (record { what = stmts.If e s o; line = line })
      ≡ record { what = stmts.If e (written_out s) (option_map written_out o); line = line }
  written-if e s o = search (rules, stmt_folds)

  pub written-while : (e : Expr) (s : Stmt) → written_out (record { what = stmts.While e s; line = line }) ≡ record { what = stmts.While e (written_out s); line = line }
  written-while e s = search (rules, stmt_folds)

  pub written-for : (f : Option Stmt) (e : Option Expr) (l : Option Stmt) (s : Stmt) → written_out (record { what = stmts.For f e l s; line = line })
      ≡ record { what = stmts.For (option_map written_out f) e (option_map written_out l) (written_out s); line = line }
  written-for f e l s = search (rules, stmt_folds)

  pub written-return : (e : Option Expr) → written_out (record { what = stmts.Return e; line = line }) ≡ record { what = stmts.Return e; line = line }
  written-return e = search (rules, stmt_folds)

  pub written-break : written_out (record { what = stmts.Break; line = line }) ≡ record { what = stmts.Break; line = line }
  written-break = search (rules, stmt_folds)

  pub written-continue : written_out (record { what = stmts.Continue; line = line }) ≡ record { what = stmts.Continue; line = line }
  written-continue = search (rules, stmt_folds)

  pub written-task : (mark : TaskMark) (s : Stmt) → written_out (record { what = stmts.Task mark s; line = line }) ≡ record { what = stmts.Task mark (written_out s); line = line }
  written-task mark s = search (rules, stmt_folds)

  pub written-task_loop : (head : LoopHead) (s : Stmt) → written_out (record { what = stmts.TaskLoop head s; line = line }) ≡ written line head (written_out s)
  written-task_loop head s = search (rules, stmt_folds)

  pub written-wait : (sections : Option (List Section)) → written_out (record { what = stmts.TaskWait sections; line = line }) ≡ record { what = stmts.TaskWait sections; line = line }
  written-wait sections = search (rules, stmt_folds)

  pub written-release : (clauses : List Clause) → written_out (record { what = stmts.Release clauses; line = line }) ≡ record { what = stmts.Release clauses; line = line }
  written-release clauses = search (rules, stmt_folds)
