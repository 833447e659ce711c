-- The rules of each kind of statement, and what is found of each kind of expression.
use Rattle.std.proofs.Common.{◌≡◌, ℕ, Bool, false, List, [], true, map, not, Option, option_map, rules}
use Rattle.oss_syntax.specs.declared.tree.expr.BinOp.{BinOp}
use Rattle.oss_syntax.specs.declared.tree.expr.UnOp.{UnOp}
use Rattle.oss_syntax.specs.declared.tree.expr.Expr.{Expr}
use Rattle.oss_syntax.specs.declared.tree.expr.ExprKind.TheVariants as exprs
use Rattle.oss_syntax.specs.declared.tree.expr.ExprKind.TheFolds.{the_lemmas as expr_folds}
use Rattle.oss_syntax.specs.declared.tree.pragma.Clause.{Clause}
use Rattle.oss_syntax.specs.declared.tree.pragma.Section.{Section}
use Rattle.oss_syntax.specs.declared.tree.pragma.TaskMark.{TaskMark}
use Rattle.oss_syntax.specs.declared.tree.program.Item.{Item}
use Rattle.oss_syntax.specs.declared.tree.program.Local.{Local}
use Rattle.oss_syntax.specs.declared.tree.stmt.LoopHead.{LoopHead}
use Rattle.oss_syntax.specs.declared.tree.stmt.Stmt.{Stmt}
use Rattle.oss_syntax.specs.declared.tree.stmt.StmtKind.TheVariants as stmts
use Rattle.oss_syntax.specs.declared.tree.stmt.StmtKind.TheFolds.{the_lemmas as stmt_folds}
use Rattle.oss_grammar.specs.declared.kinds.Around.{Around}
use Rattle.oss_syntax.specs.declared.refusal.RefusedKind.TheVariants as refused
use Rattle.oss_grammar.specs.declared.kinds.Wanted.TheVariants as wanted
use Rattle.oss_grammar.specs.Broken.{where_so}
use Rattle.oss_grammar.specs.ExpressionRules.{call_findings, findings, value_rules}
use Rattle.oss_grammar.specs.Kinds.{all_of, number_findings, name_findings, index_findings, unary_findings, binary_findings}
use Rattle.oss_grammar.specs.Scopes.{loop_locals, meaning}
use Rattle.oss_grammar.specs.SectionRules.{clauses_rules}
use Rattle.oss_grammar.specs.StaticRules.{alone, assign_rules, declare_all, for_rules, head_rules, in_a_loop, in_a_task, in_a_task_loop, inner, inner_part, judged, may_break, may_continue, print_rules, return_rules, rules_of, rules_of_all, then_judge, wait_rules}

module _ (s : Stmt) (all : List Item) (a : Around) (locals : List Local) where
  pub rules-block : (body : List Stmt) → s.what ≡ stmts.Block body → rules_of s all a locals ≡ inner (rules_of_all body) all a locals
  rules-block body is = rw is (search (rules, stmt_folds))

  pub rules-empty : s.what ≡ stmts.Empty → rules_of s all a locals ≡ judged [] locals
  rules-empty is = rw is (search (rules, stmt_folds))

  pub rules-declare : (ds : List Local) → s.what ≡ stmts.Declare ds → rules_of s all a locals ≡ declare_all all a.start ds locals
  rules-declare ds is = rw is (search (rules, stmt_folds))

  pub rules-assign : (target : Expr) (o : Option BinOp) (e : Expr) → s.what ≡ stmts.Assign target o e → rules_of s all a locals ≡ judged (assign_rules all locals o target e) locals
  rules-assign target o e is = rw is (search (rules, stmt_folds))

  pub rules-call : (name : List ℕ) (es : List Expr) → s.what ≡ stmts.Call name es
      → rules_of s all a locals ≡ judged (all_of (call_findings all locals name s.line true (map (findings all locals) es))) locals
  rules-call name es is = rw is (search (rules, stmt_folds))

  pub rules-print : (format : List ℕ) (es : List Expr) → s.what ≡ stmts.Print format es → rules_of s all a locals ≡ judged (print_rules all locals s.line format es) locals
  rules-print format es is = rw is (search (rules, stmt_folds))

  pub rules-if : (e : Expr) (t : Stmt) (o : Option Stmt) → s.what ≡ stmts.If e t o
      → rules_of s all a locals
      ≡ then_judge (judged (value_rules all locals wanted.Number e) locals) (λ ls. then_judge (inner (rules_of t) all a ls) (λ ms. inner_part (option_map rules_of o) all a ms))
  rules-if e t o is = rw is (search (rules, stmt_folds))

  pub rules-while : (e : Expr) (t : Stmt) → s.what ≡ stmts.While e t
      → rules_of s all a locals ≡ then_judge (judged (value_rules all locals wanted.Number e) locals) (λ ls. inner (rules_of t) all (in_a_loop a) ls)
  rules-while e t is = rw is (search (rules, stmt_folds))

  pub rules-for : (start : Option Stmt) (test : Option Expr) (step : Option Stmt) (body : Stmt) → s.what ≡ stmts.For start test step body
      → rules_of s all a locals ≡ inner (for_rules (option_map rules_of start) test (option_map rules_of step) (rules_of body)) all a locals
  rules-for start test step body is = rw is (search (rules, stmt_folds))

  pub rules-return : (e : Option Expr) → s.what ≡ stmts.Return e → rules_of s all a locals ≡ judged (return_rules all locals a s.line e) locals
  rules-return e is = rw is (search (rules, stmt_folds))

  pub rules-break : s.what ≡ stmts.Break → rules_of s all a locals ≡ judged (where_so (not (may_break a.nearest)) refused.BadJump s.line) locals
  rules-break is = rw is (search (rules, stmt_folds))

  pub rules-continue : s.what ≡ stmts.Continue → rules_of s all a locals ≡ judged (where_so (not (may_continue a.nearest)) refused.BadJump s.line) locals
  rules-continue is = rw is (search (rules, stmt_folds))

  pub rules-task : (mark : TaskMark) (t : Stmt) → s.what ≡ stmts.Task mark t
      → rules_of s all a locals ≡ then_judge (judged (clauses_rules all locals 0 mark.clauses) locals) (λ ls. inner (rules_of t) all (in_a_task a) ls)
  rules-task mark t is = rw is (search (rules, stmt_folds))

  pub rules-task-loop : (head : LoopHead) (t : Stmt) → s.what ≡ stmts.TaskLoop head t
      → rules_of s all a locals ≡ alone (then_judge (judged (head_rules all locals head) (loop_locals head locals)) (λ ls. inner (rules_of t) all (in_a_task_loop a) ls)) locals
  rules-task-loop head t is = rw is (search (rules, stmt_folds))

  pub rules-wait : (sections : Option (List Section)) → s.what ≡ stmts.TaskWait sections → rules_of s all a locals ≡ judged (wait_rules all locals sections) locals
  rules-wait sections is = rw is (search (rules, stmt_folds))

  pub rules-release : (clauses : List Clause) → s.what ≡ stmts.Release clauses → rules_of s all a locals ≡ judged (clauses_rules all locals 0 clauses) locals
  rules-release clauses is = rw is (search (rules, stmt_folds))

module _ (all : List Item) (locals : List Local) (e : Expr) where
  pub found-number : (value : ℕ) (unsigned : Bool) → e.what ≡ exprs.Number value unsigned → findings all locals e ≡ number_findings unsigned e.line
  found-number value unsigned is = rw is (search (rules, expr_folds))

  pub found-name : (name : List ℕ) → e.what ≡ exprs.Name name → findings all locals e ≡ name_findings (meaning all locals name) e.line
  found-name name is = rw is (search (rules, expr_folds))

  pub found-index : (a b : Expr) → e.what ≡ exprs.Index a b → findings all locals e ≡ index_findings e.line (findings all locals a) (findings all locals b)
  found-index a b is = rw is (search (rules, expr_folds))

  pub found-unary : (o : UnOp) (a : Expr) → e.what ≡ exprs.Unary o a → findings all locals e ≡ unary_findings e.line o (findings all locals a)
  found-unary o a is = rw is (search (rules, expr_folds))

  pub found-binary : (o : BinOp) (a b : Expr) → e.what ≡ exprs.Binary o a b → findings all locals e ≡ binary_findings e.line o (findings all locals a) (findings all locals b)
  found-binary o a b is = rw is (search (rules, expr_folds))

  pub found-call : (name : List ℕ) (es : List Expr) → e.what ≡ exprs.Call name es → findings all locals e ≡ call_findings all locals name e.line false (map (findings all locals) es)
  found-call name es is = rw is (search (rules, expr_folds))
