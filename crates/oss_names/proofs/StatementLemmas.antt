-- The rules of each kind of statement.
use Rattle.std.proofs.Common.{◌≡◌, ℕ, List, [], true, map, not, Option, option_map, rules}
use Rattle.oss_syntax.specs.declared.tree.expr.BinOp.{BinOp}
use Rattle.oss_syntax.specs.declared.tree.expr.Expr.{Expr}
use Rattle.oss_syntax.specs.declared.tree.pragma.Clause.{Clause}
use Rattle.oss_syntax.specs.declared.tree.pragma.Section.{Section}
use Rattle.oss_syntax.specs.declared.tree.program.Item.{Item}
use Rattle.oss_syntax.specs.declared.tree.program.Local.{Local}
use Rattle.oss_syntax.specs.declared.tree.stmt.Stmt.{Stmt}
use Rattle.oss_syntax.specs.declared.tree.stmt.StmtKind.TheVariants as stmts
use Rattle.oss_syntax.specs.declared.tree.stmt.StmtKind.TheFolds.{the_lemmas as stmt_folds}
use Rattle.oss_grammar.specs.declared.kinds.Around.{Around}
use Rattle.oss_syntax.specs.declared.refusal.RefusedKind.TheVariants as refused
use Rattle.oss_grammar.specs.Broken.{where_so}
use Rattle.oss_grammar.specs.ExpressionRules.{call_findings, findings}
use Rattle.oss_grammar.specs.Kinds.{all_of}
use Rattle.oss_grammar.specs.SectionRules.{clauses_rules}
use Rattle.oss_grammar.specs.StaticRules.{assign_rules, declare_all, for_rules, inner, judged, may_break, may_continue, print_rules, return_rules, rules_of, wait_rules}

module _ (s : Stmt) (all : List Item) (a : Around) (locals : List Local) where
  pub rules-empty : s.what ≡ stmts.Empty → rules_of s all a locals ≡ judged [] locals
  rules-empty is = rw is (search (rules, stmt_folds))

  pub rules-declare : (ds : List Local) → s.what ≡ stmts.Declare ds → rules_of s all a locals ≡ declare_all all a.start ds locals
  rules-declare ds is = rw is (search (rules, stmt_folds))

  pub rules-assign : (target : Expr) (o : Option BinOp) (e : Expr) → s.what ≡ stmts.Assign target o e → rules_of s all a locals ≡ judged (assign_rules all locals o target e) locals
  rules-assign target o e is = rw is (search (rules, stmt_folds))

  pub rules-call : (name : List ℕ) (es : List Expr) → s.what ≡ stmts.Call name es
      → rules_of s all a locals ≡ judged (all_of (call_findings all locals name s.line true (map (findings all locals) es))) locals
  rules-call name es is = rw is (search (rules, stmt_folds))

  pub rules-print : (format : List ℕ) (es : List Expr) → s.what ≡ stmts.Print format es → rules_of s all a locals ≡ judged (print_rules all locals s.line format es) locals
  rules-print format es is = rw is (search (rules, stmt_folds))

  pub rules-for : (start : Option Stmt) (test : Option Expr) (step : Option Stmt) (body : Stmt) → s.what ≡ stmts.For start test step body
      → rules_of s all a locals ≡ inner (for_rules (option_map rules_of start) test (option_map rules_of step) (rules_of body)) all a locals
  rules-for start test step body is = rw is (search (rules, stmt_folds))

  pub rules-return : (e : Option Expr) → s.what ≡ stmts.Return e → rules_of s all a locals ≡ judged (return_rules all locals a s.line e) locals
  rules-return e is = rw is (search (rules, stmt_folds))

  pub rules-break : s.what ≡ stmts.Break → rules_of s all a locals ≡ judged (where_so (not (may_break a.nearest)) refused.BadJump s.line) locals
  rules-break is = rw is (search (rules, stmt_folds))

  pub rules-continue : s.what ≡ stmts.Continue → rules_of s all a locals ≡ judged (where_so (not (may_continue a.nearest)) refused.BadJump s.line) locals
  rules-continue is = rw is (search (rules, stmt_folds))

  pub rules-wait : (sections : Option (List Section)) → s.what ≡ stmts.TaskWait sections → rules_of s all a locals ≡ judged (wait_rules all locals sections) locals
  rules-wait sections is = rw is (search (rules, stmt_folds))

  pub rules-release : (clauses : List Clause) → s.what ≡ stmts.Release clauses → rules_of s all a locals ≡ judged (clauses_rules all locals 0 clauses) locals
  rules-release clauses is = rw is (search (rules, stmt_folds))
