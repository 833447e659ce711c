-- Induction over statements and expressions: what a statement is, with a claim on each statement in it, and the same of expressions.
use Rattle.std.proofs.Common.{◌≡◌, ℕ, Bool, List, [], ◌∷◌, map, sym, ap, ◌∙◌, subst, Option, Some, None}
use Rattle.oss_syntax.specs.declared.tree.expr.BinOp.{BinOp}
use Rattle.oss_syntax.specs.declared.tree.expr.UnOp.{UnOp}
use Rattle.oss_syntax.specs.declared.tree.expr.Expr.{Expr, roll-Expr, map-Expr}
use Rattle.oss_syntax.specs.declared.tree.expr.ExprKind.{ExprKind, roll-ExprKind, map-ExprKind}
use Rattle.oss_syntax.specs.declared.tree.expr.ExprKind.TheVariants as exprs
use Rattle.oss_syntax.specs.declared.tree.expr.ExprKind.TheOpen as open_expr
use Rattle.oss_syntax.specs.declared.tree.expr.ExprKind.TheOpen.{ExprKind-F, Expr-F}
use Rattle.oss_syntax.specs.declared.tree.expr.ExprKind.TheVariants.{rolls-Number, rolls-Name, rolls-Index, rolls-Unary, rolls-Binary, rolls-Call}
use Rattle.oss_syntax.specs.declared.tree.expr.ExprKind.TheFolds.{ind-Expr}
use Rattle.oss_syntax.specs.declared.tree.pragma.Clause.{Clause}
use Rattle.oss_syntax.specs.declared.tree.pragma.Section.{Section}
use Rattle.oss_syntax.specs.declared.tree.pragma.TaskMark.{TaskMark}
use Rattle.oss_syntax.specs.declared.tree.program.Local.{Local}
use Rattle.oss_syntax.specs.declared.tree.stmt.LoopHead.{LoopHead}
use Rattle.oss_syntax.specs.declared.tree.stmt.Stmt.{Stmt, roll-Stmt, map-Stmt}
use Rattle.oss_syntax.specs.declared.tree.stmt.StmtKind.{StmtKind, roll-StmtKind, map-StmtKind}
use Rattle.oss_syntax.specs.declared.tree.stmt.StmtKind.TheVariants as stmts
use Rattle.oss_syntax.specs.declared.tree.stmt.StmtKind.TheOpen as open_stmt
use Rattle.oss_syntax.specs.declared.tree.stmt.StmtKind.TheOpen.{StmtKind-F, Stmt-F}
use Rattle.oss_syntax.specs.declared.tree.stmt.StmtKind.TheVariants.{rolls-Block, rolls-Empty, rolls-Declare, rolls-Assign, rolls-Call as rolls-StmtCall, rolls-Print, rolls-If, rolls-While, rolls-For, rolls-Return, rolls-Break, rolls-Continue, rolls-Task, rolls-TaskLoop, rolls-TaskWait, rolls-Release}
use Rattle.oss_syntax.specs.declared.tree.stmt.StmtKind.TheFolds.{ind-Stmt}

-- a claim on each of a list, and on an option
pub data Each {A : Type 0} (Q : A → Type 0) : List A → Type 0 where
  each_none : Each Q []
  each_more : {x : A} {xs : List A} → Q x → Each Q xs → Each Q (x ∷ xs)

pub data Any {A : Type 0} (Q : A → Type 0) : Option A → Type 0 where
  any_none : Any Q None
  any_some : {x : A} → Q x → Any Q (Some x)

-- what a statement is
pub data StmtParts (Q : Stmt → Type 0) (k : StmtKind) : Type 0 where
  is_block : (body : List Stmt) → k ≡ stmts.Block body → Each Q body → StmtParts Q k
  is_empty : k ≡ stmts.Empty → StmtParts Q k
  is_declare : (locals : List Local) → k ≡ stmts.Declare locals → StmtParts Q k
  is_assign : (target : Expr) (o : Option BinOp) (e : Expr) → k ≡ stmts.Assign target o e → StmtParts Q k
  is_call : (name : List ℕ) (es : List Expr) → k ≡ stmts.Call name es → StmtParts Q k
  is_print : (format : List ℕ) (es : List Expr) → k ≡ stmts.Print format es → StmtParts Q k
  is_if : (e : Expr) (s : Stmt) (o : Option Stmt) → k ≡ stmts.If e s o → Q s → Any Q o → StmtParts Q k
  is_while : (e : Expr) (s : Stmt) → k ≡ stmts.While e s → Q s → StmtParts Q k
  is_for : (start : Option Stmt) (test : Option Expr) (step : Option Stmt) (s : Stmt) → k ≡ stmts.For start test step s → Any Q start → Any Q step → Q s → StmtParts Q k
  is_return : (e : Option Expr) → k ≡ stmts.Return e → StmtParts Q k
  is_break : k ≡ stmts.Break → StmtParts Q k
  is_continue : k ≡ stmts.Continue → StmtParts Q k
  is_task : (mark : TaskMark) (s : Stmt) → k ≡ stmts.Task mark s → Q s → StmtParts Q k
  is_task_loop : (head : LoopHead) (s : Stmt) → k ≡ stmts.TaskLoop head s → Q s → StmtParts Q k
  is_wait : (sections : Option (List Section)) → k ≡ stmts.TaskWait sections → StmtParts Q k
  is_release : (clauses : List Clause) → k ≡ stmts.Release clauses → StmtParts Q k

-- with a proof beside each
each_of : {A : Type 0} {Q : A → Type 0} (es : List ((x : A) × Q x)) → Each Q (map (λ e. e.0) es)
each_of [] = each_none
each_of (e ∷ es) = each_more e.1 (each_of es)

module _ (Q : Stmt → Type 0) (step : (s : Stmt) → StmtParts Q s.what → Q s) where
  abbrev Kinds : Type 0
  Kinds = (k : StmtKind) × StmtParts Q k

  abbrev Stmts : Type 0
  Stmts = (s : Stmt) × Q s

  kinds : (x : StmtKind-F StmtKind Stmt) (y : StmtKind-F Kinds Stmts) → map-StmtKind Kinds Stmts StmtKind Stmt (λ e. e.0) (λ e. e.0) y ≡ x → StmtParts Q (roll-StmtKind x)
  kinds x (open_stmt.Block ys) is = is_block (map (λ e. e.0) ys) (ap roll-StmtKind (sym is) ∙ rolls-Block (map (λ e. e.0) ys)) (each_of ys)
  kinds x open_stmt.Empty is = is_empty (ap roll-StmtKind (sym is) ∙ rolls-Empty)
  kinds x (open_stmt.Declare locals) is = is_declare locals (ap roll-StmtKind (sym is) ∙ rolls-Declare locals)
  kinds x (open_stmt.Assign target o e) is = is_assign target o e (ap roll-StmtKind (sym is) ∙ rolls-Assign target o e)
  kinds x (open_stmt.Call name es) is = is_call name es (ap roll-StmtKind (sym is) ∙ rolls-StmtCall name es)
  kinds x (open_stmt.Print format es) is = is_print format es (ap roll-StmtKind (sym is) ∙ rolls-Print format es)
  kinds x (open_stmt.If e y None) is = is_if e y.0 None (ap roll-StmtKind (sym is) ∙ rolls-If e y.0 None) y.1 any_none
  kinds x (open_stmt.If e y (Some z)) is = is_if e y.0 (Some z.0) (ap roll-StmtKind (sym is) ∙ rolls-If e y.0 (Some z.0)) y.1 (any_some z.1)
  kinds x (open_stmt.While e y) is = is_while e y.0 (ap roll-StmtKind (sym is) ∙ rolls-While e y.0) y.1
  kinds x (open_stmt.For None test None y) is = is_for None test None y.0 (ap roll-StmtKind (sym is) ∙ rolls-For None test None y.0) any_none any_none y.1
  kinds x (open_stmt.For None test (Some w) y) is = is_for None test (Some w.0) y.0 (ap roll-StmtKind (sym is) ∙ rolls-For None test (Some w.0) y.0) any_none (any_some w.1) y.1
  kinds x (open_stmt.For (Some z) test None y) is = is_for (Some z.0) test None y.0 (ap roll-StmtKind (sym is) ∙ rolls-For (Some z.0) test None y.0) (any_some z.1) any_none y.1
  kinds x (open_stmt.For (Some z) test (Some w) y) is = is_for (Some z.0) test (Some w.0) y.0 (ap roll-StmtKind (sym is) ∙ rolls-For (Some z.0) test (Some w.0) y.0) (any_some z.1) (any_some w.1) y.1
  kinds x (open_stmt.Return e) is = is_return e (ap roll-StmtKind (sym is) ∙ rolls-Return e)
  kinds x open_stmt.Break is = is_break (ap roll-StmtKind (sym is) ∙ rolls-Break)
  kinds x open_stmt.Continue is = is_continue (ap roll-StmtKind (sym is) ∙ rolls-Continue)
  kinds x (open_stmt.Task mark y) is = is_task mark y.0 (ap roll-StmtKind (sym is) ∙ rolls-Task mark y.0) y.1
  kinds x (open_stmt.TaskLoop head y) is = is_task_loop head y.0 (ap roll-StmtKind (sym is) ∙ rolls-TaskLoop head y.0) y.1
  kinds x (open_stmt.TaskWait sections) is = is_wait sections (ap roll-StmtKind (sym is) ∙ rolls-TaskWait sections)
  kinds x (open_stmt.Release clauses) is = is_release clauses (ap roll-StmtKind (sym is) ∙ rolls-Release clauses)

  whole : (x : Stmt-F StmtKind Stmt) (y : Stmt-F Kinds Stmts) → map-Stmt Kinds Stmts StmtKind Stmt (λ e. e.0) (λ e. e.0) y ≡ x → Q (roll-Stmt x)
  whole x y is = subst (λ z. Q (roll-Stmt z)) is (step (roll-Stmt (map-Stmt Kinds Stmts StmtKind Stmt (λ e. e.0) (λ e. e.0) y)) y.what.1)

  pub stmt_induction : (s : Stmt) → Q s
  stmt_induction = ind-Stmt (λ k. StmtParts Q k) Q kinds whole

-- what an expression is
pub data ExprParts (Q : Expr → Type 0) (k : ExprKind) : Type 0 where
  is_number : (value : ℕ) (unsigned : Bool) → k ≡ exprs.Number value unsigned → ExprParts Q k
  is_name : (name : List ℕ) → k ≡ exprs.Name name → ExprParts Q k
  is_index : (a e : Expr) → k ≡ exprs.Index a e → Q a → Q e → ExprParts Q k
  is_unary : (o : UnOp) (e : Expr) → k ≡ exprs.Unary o e → Q e → ExprParts Q k
  is_binary : (o : BinOp) (a b : Expr) → k ≡ exprs.Binary o a b → Q a → Q b → ExprParts Q k
  is_applied : (name : List ℕ) (es : List Expr) → k ≡ exprs.Call name es → Each Q es → ExprParts Q k

module _ (Q : Expr → Type 0) (step : (e : Expr) → ExprParts Q e.what → Q e) where
  abbrev ExprKinds : Type 0
  ExprKinds = (k : ExprKind) × ExprParts Q k

  abbrev Exprs : Type 0
  Exprs = (e : Expr) × Q e

  expr_kinds : (x : ExprKind-F ExprKind Expr) (y : ExprKind-F ExprKinds Exprs) → map-ExprKind ExprKinds Exprs ExprKind Expr (λ e. e.0) (λ e. e.0) y ≡ x → ExprParts Q (roll-ExprKind x)
  expr_kinds x (open_expr.Number value unsigned) is = is_number value unsigned (ap roll-ExprKind (sym is) ∙ rolls-Number value unsigned)
  expr_kinds x (open_expr.Name name) is = is_name name (ap roll-ExprKind (sym is) ∙ rolls-Name name)
  expr_kinds x (open_expr.Index a e) is = is_index a.0 e.0 (ap roll-ExprKind (sym is) ∙ rolls-Index a.0 e.0) a.1 e.1
  expr_kinds x (open_expr.Unary o e) is = is_unary o e.0 (ap roll-ExprKind (sym is) ∙ rolls-Unary o e.0) e.1
  expr_kinds x (open_expr.Binary o a b) is = is_binary o a.0 b.0 (ap roll-ExprKind (sym is) ∙ rolls-Binary o a.0 b.0) a.1 b.1
  expr_kinds x (open_expr.Call name es) is = is_applied name (map (λ e. e.0) es) (ap roll-ExprKind (sym is) ∙ rolls-Call name (map (λ e. e.0) es)) (each_of es)

  whole_expr : (x : Expr-F ExprKind Expr) (y : Expr-F ExprKinds Exprs) → map-Expr ExprKinds Exprs ExprKind Expr (λ e. e.0) (λ e. e.0) y ≡ x → Q (roll-Expr x)
  whole_expr x y is = subst (λ z. Q (roll-Expr z)) is (step (roll-Expr (map-Expr ExprKinds Exprs ExprKind Expr (λ e. e.0) (λ e. e.0) y)) y.what.1)

  pub expr_induction : (e : Expr) → Q e
  expr_induction = ind-Expr (λ k. ExprParts Q k) Q expr_kinds whole_expr
