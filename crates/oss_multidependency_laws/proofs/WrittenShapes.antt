-- The shape of a statement with its task loops written out, by forms; that of a task loop is the shape of the block for which it stands.
use Rattle.std.proofs.Common.{◌≡◌, ◌∙◌, ℕ, Bool, true, false, List, [], ◌∷◌, map, Option, Some, None, option_map, refl, ap, rules}
use Rattle.oss_syntax.specs.declared.tree.expr.BinOp.{BinOp}
use Rattle.oss_syntax.specs.declared.tree.expr.BinOp.TheVariants as op
use Rattle.oss_syntax.specs.declared.tree.expr.Expr.{Expr}
use Rattle.oss_syntax.specs.declared.tree.pragma.Clause.{Clause}
use Rattle.oss_syntax.specs.declared.tree.pragma.Section.{Section}
use Rattle.oss_syntax.specs.declared.tree.pragma.TaskMark.{TaskMark}
use Rattle.oss_syntax.specs.declared.tree.program.Item.{Item}
use Rattle.oss_syntax.specs.declared.tree.program.Local.{Local}
use Rattle.oss_syntax.specs.declared.tree.stmt.LoopHead.{LoopHead}
use Rattle.oss_syntax.specs.declared.tree.stmt.Stmt.{Stmt}
use Rattle.oss_syntax.specs.declared.tree.stmt.StmtKind.TheFolds.{the_lemmas as stmt_folds}
use Rattle.oss_syntax.specs.declared.tree.stmt.StmtKind.TheVariants as stmts
use Rattle.oss_grammar.specs.TaskLoops.{begin_name, end_name, first_of, grain_name, grain_of, joined_at, long_at, name_at, number_at, round_of, set_at, stop_name, task_clauses, task_of, turns_of, written, written_out}
use Rattle.oss_multidependency_laws.specs.Fitting.{Shape, clauses_fit, fits, shape, shape_of, stands}
use Rattle.oss_multidependency_laws.proofs.AlikeExpressions.{fits-binary}
use Rattle.oss_multidependency_laws.proofs.RulesFit.{and_both, fits-name, fits-number}
use Rattle.oss_multidependency_laws.proofs.UnrolledForms.{shape-assign, shape-block, shape-declare, shape-for, shape-if, shape-task, shape-while}

module _ (line : ℕ) where
  pub written-block : (body : List Stmt) → written_out (record { what = stmts.Block body; line = line }) ≡ record { what = stmts.Block (map written_out body); line = line }
  written-block body = search (rules, stmt_folds)

  pub written-empty : written_out (record { what = stmts.Empty; line = line }) ≡ record { what = stmts.Empty; line = line }
  written-empty = search (rules, stmt_folds)

  pub written-declare : (ls : List Local) → written_out (record { what = stmts.Declare ls; line = line }) ≡ record { what = stmts.Declare ls; line = line }
  written-declare ls = search (rules, stmt_folds)

  pub written-assign : (t : Expr) (o : Option BinOp) (e : Expr) → written_out (record { what = stmts.Assign t o e; line = line }) ≡ record { what = stmts.Assign t o e; line = line }
  written-assign t o e = search (rules, stmt_folds)

  pub written-call : (name : List ℕ) (es : List Expr) → written_out (record { what = stmts.Call name es; line = line }) ≡ record { what = stmts.Call name es; line = line }
  written-call name es = search (rules, stmt_folds)

  pub written-print : (format : List ℕ) (es : List Expr) → written_out (record { what = stmts.Print format es; line = line }) ≡ record { what = stmts.Print format es; line = line }
  written-print format es = search (rules, stmt_folds)

  pub written-if : (e : Expr) (s : Stmt) (o : Option Stmt) → written_out (record { what = stmts.If e s o; line = line }) ≡ record { what = stmts.If e (written_out s) (option_map written_out o); line = line }
  written-if e s o = search (rules, stmt_folds)

  pub written-while : (e : Expr) (s : Stmt) → written_out (record { what = stmts.While e s; line = line }) ≡ record { what = stmts.While e (written_out s); line = line }
  written-while e s = search (rules, stmt_folds)

  pub written-for : (f : Option Stmt) (e : Option Expr) (l : Option Stmt) (s : Stmt)
      → written_out (record { what = stmts.For f e l s; line = line }) ≡ record { what = stmts.For (option_map written_out f) e (option_map written_out l) (written_out s); line = line }
  written-for f e l s = search (rules, stmt_folds)

  pub written-return : (e : Option Expr) → written_out (record { what = stmts.Return e; line = line }) ≡ record { what = stmts.Return e; line = line }
  written-return e = search (rules, stmt_folds)

  pub written-break : written_out (record { what = stmts.Break; line = line }) ≡ record { what = stmts.Break; line = line }
  written-break = search (rules, stmt_folds)

  pub written-continue : written_out (record { what = stmts.Continue; line = line }) ≡ record { what = stmts.Continue; line = line }
  written-continue = search (rules, stmt_folds)

  pub written-task : (mark : TaskMark) (s : Stmt) → written_out (record { what = stmts.Task mark s; line = line }) ≡ record { what = stmts.Task mark (written_out s); line = line }
  written-task mark s = search (rules, stmt_folds)

  pub written-task_loop : (head : LoopHead) (s : Stmt) → written_out (record { what = stmts.TaskLoop head s; line = line }) ≡ written line head (written_out s)
  written-task_loop head s = search (rules, stmt_folds)

  pub written-wait : (sections : Option (List Section)) → written_out (record { what = stmts.TaskWait sections; line = line }) ≡ record { what = stmts.TaskWait sections; line = line }
  written-wait sections = search (rules, stmt_folds)

  pub written-release : (clauses : List Clause) → written_out (record { what = stmts.Release clauses; line = line }) ≡ record { what = stmts.Release clauses; line = line }
  written-release clauses = search (rules, stmt_folds)

module _ (other : List Item) where
  -- a statement, its task loops written out, fits and is no declaration
  abbrev pub StandsWritten : Stmt → Type 0
  StandsWritten s = stands (shape_of other (written_out s)) ≡ true

  -- one whose shape is known
  pub as_shape : (s : Stmt) (b : Bool) → shape_of other s ≡ shape b → b ≡ true → stands (shape_of other s) ≡ true
  as_shape s b is fit = ap stands is ∙ fit

  -- Task loops

  joined_fits : (line : ℕ) (o : BinOp) (a b : Expr) → fits other a ≡ true → fits other b ≡ true → fits other (joined_at line o a b) ≡ true
  joined_fits line o a b left right = fits-binary other line o a b ∙ and_both (fits other a) (fits other b) left right

  set_stands : (line : ℕ) (name : List ℕ) (e : Expr) → fits other e ≡ true → stands (shape_of other (set_at line name e)) ≡ true
  set_stands line name e fit =
      as_shape (set_at line name e) _ (shape-assign other line (name_at line name) None e) (and_both (fits other (name_at line name)) (fits other e) (fits-name other line name) fit)

  -- a statement that stands fits
  pub stands_fits : (s : Shape) → stands s ≡ true → s.fits ≡ true
  stands_fits s fit = by s.declares s.fits fit
    where
      by : (d f : Bool) → stands (record { declares = d; fits = f }) ≡ true → f ≡ true
      by d true e = refl
      by true false e = absurd (cc)
      by false false e = absurd (cc)

  module _ (line : ℕ) (head : LoopHead) (body : Stmt) (whole : stands (shape_of other body) ≡ true) (clauses : clauses_fit other (task_clauses head.mark.clauses) ≡ true) where
    turns_stand : stands (shape_of other (turns_of head body)) ≡ true
    turns_stand =
        let test = joined_at head.for_line op.Less (name_at head.for_line head.variable.name) (name_at head.for_line stop_name) in
        let step : Stmt = record { what = stmts.Assign (name_at head.for_line head.variable.name) (Some op.Add) (number_at head.for_line 1); line = head.for_line } in
        as_shape (turns_of head body) _ (shape-for other head.for_line None (Some test) (Some step) body)
        (and_both (fits other test) _ (joined_fits head.for_line op.Less (name_at head.for_line head.variable.name) (name_at head.for_line stop_name) (fits-name other head.for_line head.variable.name) (fits-name other head.for_line stop_name))
        (and_both (stands (shape_of other step)) (stands (shape_of other body))
        (as_shape step _ (shape-assign other head.for_line (name_at head.for_line head.variable.name) (Some op.Add) (number_at head.for_line 1))
        (and_both (fits other (name_at head.for_line head.variable.name)) (fits other (number_at head.for_line 1)) (fits-name other head.for_line head.variable.name) (fits-number other head.for_line 1 false))) whole))

    task_stands : stands (shape_of other (task_of line head body)) ≡ true
    task_stands =
        as_shape (task_of line head body) _ (shape-task other line (record { clauses = task_clauses head.mark.clauses; line = head.mark.line }) (turns_of head body))
        (and_both (clauses_fit other (task_clauses head.mark.clauses)) (stands (shape_of other (turns_of head body))) clauses turns_stand)

    round_stands : stands (shape_of other (round_of line head body)) ≡ true
    round_stands =
        let locals = long_at line head.variable.name (name_at line begin_name) ∷ long_at line stop_name (name_at line end_name) ∷ [] in
        let declared : Stmt = record { what = stmts.Declare locals; line = line } in
        let less = joined_at line op.Sub (name_at line end_name) (name_at line begin_name) in
        let test = joined_at line op.More less (name_at line grain_name) in
        let more = joined_at line op.Add (name_at line begin_name) (name_at line grain_name) in
        let shorter : Stmt = record { what = stmts.If test (set_at line stop_name more) None; line = line } in
        let last = set_at line begin_name (name_at line stop_name) in
        as_shape (round_of line head body) _ (shape-block other line (declared ∷ shorter ∷ task_of line head body ∷ last ∷ []))
        (and_both (shape_of other declared).fits _
        (ap (λ (z : Shape). z.fits) (shape-declare other line locals) ∙ and_both (fits other (name_at line begin_name)) _ (fits-name other line begin_name) (and_both (fits other (name_at line end_name)) true (fits-name other line end_name) refl))
        (and_both (shape_of other shorter).fits _
        (ap (λ (z : Shape). z.fits) (shape-if other line test (set_at line stop_name more) None)
        ∙ and_both (fits other test) _
        (joined_fits line op.More less (name_at line grain_name) (joined_fits line op.Sub (name_at line end_name) (name_at line begin_name) (fits-name other line end_name) (fits-name other line begin_name)) (fits-name other line grain_name))
        (and_both (stands (shape_of other (set_at line stop_name more))) true
        (set_stands line stop_name more (joined_fits line op.Add (name_at line begin_name) (name_at line grain_name) (fits-name other line begin_name) (fits-name other line grain_name))) refl))
        (and_both (shape_of other (task_of line head body)).fits _ (stands_fits (shape_of other (task_of line head body)) task_stands)
        (and_both (shape_of other last).fits true (stands_fits (shape_of other last) (set_stands line begin_name (name_at line stop_name) (fits-name other line stop_name))) refl))))

    pub loop_stands : fits other (first_of line head.variable.first) ≡ true → fits other head.end ≡ true → fits other (grain_of line head.mark.clauses) ≡ true → stands (shape_of other (written line head body)) ≡ true
    loop_stands first end grain =
        let locals = long_at line begin_name (first_of line head.variable.first) ∷ long_at line end_name head.end ∷ long_at line grain_name (grain_of line head.mark.clauses) ∷ [] in
        let declared : Stmt = record { what = stmts.Declare locals; line = line } in
        let low = joined_at line op.Less (name_at line grain_name) (number_at line 1) in
        let raised : Stmt = record { what = stmts.If low (set_at line grain_name (number_at line 1)) None; line = line } in
        let test = joined_at line op.Less (name_at line begin_name) (name_at line end_name) in
        let turning : Stmt = record { what = stmts.While test (round_of line head body); line = line } in
        as_shape (written line head body) _ (shape-block other line (declared ∷ raised ∷ turning ∷ []))
        (and_both (shape_of other declared).fits _
        (ap (λ (z : Shape). z.fits) (shape-declare other line locals)
        ∙ and_both (fits other (first_of line head.variable.first)) _ first (and_both (fits other head.end) _ end (and_both (fits other (grain_of line head.mark.clauses)) true grain refl)))
        (and_both (shape_of other raised).fits _
        (ap (λ (z : Shape). z.fits) (shape-if other line low (set_at line grain_name (number_at line 1)) None)
        ∙ and_both (fits other low) _ (joined_fits line op.Less (name_at line grain_name) (number_at line 1) (fits-name other line grain_name) (fits-number other line 1 false))
        (and_both (stands (shape_of other (set_at line grain_name (number_at line 1)))) true (set_stands line grain_name (number_at line 1) (fits-number other line 1 false)) refl))
        (and_both (shape_of other turning).fits true
        (ap (λ (z : Shape). z.fits) (shape-while other line test (round_of line head body))
        ∙ and_both (fits other test) (stands (shape_of other (round_of line head body)))
        (joined_fits line op.Less (name_at line begin_name) (name_at line end_name) (fits-name other line begin_name) (fits-name other line end_name)) round_stands) refl)))
