-- What each form of a statement is unrolled, and its shape: the equations of the two folds.
use Rattle.std.proofs.Common.{◌≡◌, ℕ, Bool, true, List, length, map, Option, option_map, rules}
use Rattle.std.specs.Prelude.{◌&&◌}
use Rattle.oss_syntax.specs.declared.tree.expr.BinOp.{BinOp}
use Rattle.oss_syntax.specs.declared.tree.expr.Expr.{Expr}
use Rattle.oss_syntax.specs.declared.tree.pragma.Clause.{Clause}
use Rattle.oss_syntax.specs.declared.tree.pragma.Section.{Section}
use Rattle.oss_syntax.specs.declared.tree.pragma.TaskMark.{TaskMark}
use Rattle.oss_syntax.specs.declared.tree.program.Item.{Item}
use Rattle.oss_syntax.specs.declared.tree.program.Local.{Local}
use Rattle.oss_syntax.specs.declared.tree.stmt.LoopHead.{LoopHead}
use Rattle.oss_syntax.specs.declared.tree.stmt.Stmt.{Stmt}
use Rattle.oss_syntax.specs.declared.tree.stmt.StmtKind.TheFolds.{the_lemmas as stmt_folds}
use Rattle.oss_syntax.specs.declared.tree.stmt.StmtKind.TheVariants as stmts
use Rattle.oss_meaning.specs.Names.{item_found}
use Rattle.oss_multidependency_laws.specs.Fitting.{all_fit, clauses_fit, fits, locals_fit, optional_fits, part_fits, part_stands, shape, shape_of, shapes_fit, stands, takes, waits_fit}
use Rattle.oss_multidependency_laws.specs.Unrolling.{unrolled, unrolled_clauses, unrolled_mark, unrolled_sections}

-- Statements unrolled, by forms

module _ (chosen : Section → Bool) (line : ℕ) where
  pub unrolled-block : (body : List Stmt) → unrolled chosen (record { what = stmts.Block body; line = line }) ≡ record { what = stmts.Block (map (unrolled chosen) body); line = line }
  unrolled-block body = search (rules, stmt_folds)

  pub unrolled-empty : unrolled chosen (record { what = stmts.Empty; line = line }) ≡ record { what = stmts.Empty; line = line }
  unrolled-empty = search (rules, stmt_folds)

  pub unrolled-declare : (ls : List Local) → unrolled chosen (record { what = stmts.Declare ls; line = line }) ≡ record { what = stmts.Declare ls; line = line }
  unrolled-declare ls = search (rules, stmt_folds)

  pub unrolled-assign : (t : Expr) (o : Option BinOp) (e : Expr) → unrolled chosen (record { what = stmts.Assign t o e; line = line }) ≡ record { what = stmts.Assign t o e; line = line }
  unrolled-assign t o e = search (rules, stmt_folds)

  pub unrolled-call : (name : List ℕ) (es : List Expr) → unrolled chosen (record { what = stmts.Call name es; line = line }) ≡ record { what = stmts.Call name es; line = line }
  unrolled-call name es = search (rules, stmt_folds)

  pub unrolled-print : (format : List ℕ) (es : List Expr) → unrolled chosen (record { what = stmts.Print format es; line = line }) ≡ record { what = stmts.Print format es; line = line }
  unrolled-print format es = search (rules, stmt_folds)

  pub unrolled-if : (e : Expr) (s : Stmt) (o : Option Stmt)
      → unrolled chosen (record { what = stmts.If e s o; line = line }) ≡ record { what = stmts.If e (unrolled chosen s) (option_map (unrolled chosen) o); line = line }
  unrolled-if e s o = search (rules, stmt_folds)

  pub unrolled-while : (e : Expr) (s : Stmt) → unrolled chosen (record { what = stmts.While e s; line = line }) ≡ record { what = stmts.While e (unrolled chosen s); line = line }
  unrolled-while e s = search (rules, stmt_folds)

  pub unrolled-for : (f : Option Stmt) (e : Option Expr) (l : Option Stmt) (s : Stmt) → unrolled chosen (record { what = stmts.For f e l s; line = line })
      ≡ record { what = stmts.For (option_map (unrolled chosen) f) e (option_map (unrolled chosen) l) (unrolled chosen s); line = line }
  unrolled-for f e l s = search (rules, stmt_folds)

  pub unrolled-return : (e : Option Expr) → unrolled chosen (record { what = stmts.Return e; line = line }) ≡ record { what = stmts.Return e; line = line }
  unrolled-return e = search (rules, stmt_folds)

  pub unrolled-break : unrolled chosen (record { what = stmts.Break; line = line }) ≡ record { what = stmts.Break; line = line }
  unrolled-break = search (rules, stmt_folds)

  pub unrolled-continue : unrolled chosen (record { what = stmts.Continue; line = line }) ≡ record { what = stmts.Continue; line = line }
  unrolled-continue = search (rules, stmt_folds)

  pub unrolled-task : (mark : TaskMark) (s : Stmt) → unrolled chosen (record { what = stmts.Task mark s; line = line }) ≡ record { what = stmts.Task (unrolled_mark chosen mark) (unrolled chosen s); line = line }
  unrolled-task mark s = search (rules, stmt_folds)

  pub unrolled-task_loop : (head : LoopHead) (s : Stmt)
      → unrolled chosen (record { what = stmts.TaskLoop head s; line = line }) ≡ record { what = stmts.TaskLoop (record head { mark = unrolled_mark chosen head.mark }) (unrolled chosen s); line = line }
  unrolled-task_loop head s = search (rules, stmt_folds)

  pub unrolled-wait : (sections : Option (List Section))
      → unrolled chosen (record { what = stmts.TaskWait sections; line = line }) ≡ record { what = stmts.TaskWait (option_map (unrolled_sections chosen) sections); line = line }
  unrolled-wait sections = search (rules, stmt_folds)

  pub unrolled-release : (clauses : List Clause) → unrolled chosen (record { what = stmts.Release clauses; line = line }) ≡ record { what = stmts.Release (unrolled_clauses chosen clauses); line = line }
  unrolled-release clauses = search (rules, stmt_folds)

-- Shapes, by forms

module _ (all : List Item) (line : ℕ) where
  pub shape-block : (body : List Stmt) → shape_of all (record { what = stmts.Block body; line = line }) ≡ shape (shapes_fit (map (shape_of all) body))
  shape-block body = search (rules, stmt_folds)

  pub shape-empty : shape_of all (record { what = stmts.Empty; line = line }) ≡ shape true
  shape-empty = search (rules, stmt_folds)

  pub shape-declare : (ls : List Local) → shape_of all (record { what = stmts.Declare ls; line = line }) ≡ record { declares = true; fits = locals_fit all ls }
  shape-declare ls = search (rules, stmt_folds)

  pub shape-assign : (t : Expr) (o : Option BinOp) (e : Expr) → shape_of all (record { what = stmts.Assign t o e; line = line }) ≡ shape (fits all t && fits all e)
  shape-assign t o e = search (rules, stmt_folds)

  pub shape-call : (name : List ℕ) (es : List Expr) → shape_of all (record { what = stmts.Call name es; line = line }) ≡ shape (all_fit all es && takes all (item_found all name) (length es))
  shape-call name es = search (rules, stmt_folds)

  pub shape-print : (format : List ℕ) (es : List Expr) → shape_of all (record { what = stmts.Print format es; line = line }) ≡ shape (all_fit all es)
  shape-print format es = search (rules, stmt_folds)

  pub shape-if : (e : Expr) (s : Stmt) (o : Option Stmt)
      → shape_of all (record { what = stmts.If e s o; line = line }) ≡ shape (fits all e && (stands (shape_of all s) && part_stands (option_map (shape_of all) o)))
  shape-if e s o = search (rules, stmt_folds)

  pub shape-while : (e : Expr) (s : Stmt) → shape_of all (record { what = stmts.While e s; line = line }) ≡ shape (fits all e && stands (shape_of all s))
  shape-while e s = search (rules, stmt_folds)

  pub shape-for : (f : Option Stmt) (e : Option Expr) (l : Option Stmt) (s : Stmt) → shape_of all (record { what = stmts.For f e l s; line = line })
      ≡ shape (part_fits (option_map (shape_of all) f) && (optional_fits all e && (part_stands (option_map (shape_of all) l) && stands (shape_of all s))))
  shape-for f e l s = search (rules, stmt_folds)

  pub shape-return : (e : Option Expr) → shape_of all (record { what = stmts.Return e; line = line }) ≡ shape (optional_fits all e)
  shape-return e = search (rules, stmt_folds)

  pub shape-break : shape_of all (record { what = stmts.Break; line = line }) ≡ shape true
  shape-break = search (rules, stmt_folds)

  pub shape-continue : shape_of all (record { what = stmts.Continue; line = line }) ≡ shape true
  shape-continue = search (rules, stmt_folds)

  pub shape-task : (mark : TaskMark) (s : Stmt) → shape_of all (record { what = stmts.Task mark s; line = line }) ≡ shape (clauses_fit all mark.clauses && stands (shape_of all s))
  shape-task mark s = search (rules, stmt_folds)

  pub shape-task_loop : (head : LoopHead) (s : Stmt) → shape_of all (record { what = stmts.TaskLoop head s; line = line }) ≡ shape true
  shape-task_loop head s = search (rules, stmt_folds)

  pub shape-wait : (sections : Option (List Section)) → shape_of all (record { what = stmts.TaskWait sections; line = line }) ≡ shape (waits_fit all sections)
  shape-wait sections = search (rules, stmt_folds)

  pub shape-release : (clauses : List Clause) → shape_of all (record { what = stmts.Release clauses; line = line }) ≡ shape (clauses_fit all clauses)
  shape-release clauses = search (rules, stmt_folds)
