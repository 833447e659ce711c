-- Behind a statement the same locals are in scope in its code and in the text.
use Rattle.std.proofs.Common.{◌≡◌, ◌∙◌, List, [], ◌++◌, sym, ap, refl, rules}
use Rattle.std.proofs.lemmas.List.{append-nil}
use Rattle.oss_syntax.specs.declared.tree.program.Item.{Item}
use Rattle.oss_syntax.specs.declared.tree.program.Local.{Local}
use Rattle.oss_syntax.specs.declared.tree.stmt.Stmt.{Stmt}
use Rattle.oss_syntax.specs.declared.tree.stmt.StmtKind.{StmtKind, out-StmtKind}
use Rattle.oss_syntax.specs.declared.tree.stmt.StmtKind.TheFolds.{the_lemmas as stmt_folds}
use Rattle.oss_syntax.specs.declared.tree.stmt.StmtKind.TheOpen.{StmtKind-F}
use Rattle.oss_syntax.specs.declared.tree.stmt.StmtKind.TheOpen as open_stmt
use Rattle.oss_syntax.specs.declared.tree.stmt.StmtKind.TheVariants as stmts
use Rattle.oss_grammar.specs.Places.{declarators_of, locals_behind}
use Rattle.oss_grammar.proofs.TreeInduction.{StmtParts, stmt_induction}
use Rattle.oss_grammar.proofs.TreeInduction.StmtParts.{is_assign, is_block, is_break, is_call, is_continue, is_declare, is_empty, is_for, is_if, is_print, is_release, is_return, is_task, is_task_loop, is_wait, is_while}
use Rattle.oss_lower_laws.specs.StatementCode.{StmtCode, stmt_code}
use Rattle.oss_lower_laws.proofs.FormLemmas.{code-assign, code-block, code-break, code-call, code-continue, code-declare, code-empty, code-for, code-if, code-print, code-release, code-return, code-task, code-task_loop, code-task_wait, code-while}
use Rattle.oss_lower_bounds.specs.Bounds.{ScopesAgree}

module _ (all : List Item) where
  abbrev Agrees : Stmt → Type 0
  Agrees s = (scope : List Local) → (stmt_code all s).scope scope ≡ locals_behind s scope

  -- a statement of this form, which becomes this
  agrees : (s : Stmt) (k : StmtKind) (x : StmtKind-F StmtKind Stmt) (c : StmtCode) → s.what ≡ k → out-StmtKind s.what ≡ x → stmt_code all (record { what = k; line = s.line }) ≡ c
      → ((scope : List Local) → c.scope scope ≡ scope ++ declarators_of x) → Agrees s
  agrees s k x c is shape code same scope =
      ap (λ w. (stmt_code all (record { what = w; line = s.line })).scope scope) is
      ∙ (ap (λ d. d.scope scope) code ∙ (same scope ∙ sym (ap (λ y. scope ++ declarators_of y) shape)))

  none_more : (scope : List Local) → scope ≡ scope ++ []
  none_more scope = sym (append-nil scope)

  agree : (s : Stmt) → StmtParts Agrees s.what → Agrees s
  agree s (is_block body is each) = agrees s (stmts.Block body) (open_stmt.Block body) _ is (rw is (search (rules, stmt_folds))) (code-block all s.line body) none_more
  agree s (is_empty is) = agrees s stmts.Empty open_stmt.Empty _ is (rw is (search (rules, stmt_folds))) (code-empty all s.line) none_more
  agree s (is_declare ls is) = agrees s (stmts.Declare ls) (open_stmt.Declare ls) _ is (rw is (search (rules, stmt_folds))) (code-declare all s.line ls) (λ scope. refl)
  agree s (is_assign t o e is) = agrees s (stmts.Assign t o e) (open_stmt.Assign t o e) _ is (rw is (search (rules, stmt_folds))) (code-assign all s.line t o e) none_more
  agree s (is_call name es is) = agrees s (stmts.Call name es) (open_stmt.Call name es) _ is (rw is (search (rules, stmt_folds))) (code-call all s.line name es) none_more
  agree s (is_print format es is) = agrees s (stmts.Print format es) (open_stmt.Print format es) _ is (rw is (search (rules, stmt_folds))) (code-print all s.line format es) none_more
  agree s (is_if e side other is h k) = agrees s (stmts.If e side other) (open_stmt.If e side other) _ is (rw is (search (rules, stmt_folds))) (code-if all s.line e side other) none_more
  agree s (is_while e body is h) = agrees s (stmts.While e body) (open_stmt.While e body) _ is (rw is (search (rules, stmt_folds))) (code-while all s.line e body) none_more
  agree s (is_for start test last body is h k l) =
      agrees s (stmts.For start test last body) (open_stmt.For start test last body) _ is (rw is (search (rules, stmt_folds))) (code-for all s.line start test last body) none_more
  agree s (is_return e is) = agrees s (stmts.Return e) (open_stmt.Return e) _ is (rw is (search (rules, stmt_folds))) (code-return all s.line e) none_more
  agree s (is_break is) = agrees s stmts.Break open_stmt.Break _ is (rw is (search (rules, stmt_folds))) (code-break all s.line) none_more
  agree s (is_continue is) = agrees s stmts.Continue open_stmt.Continue _ is (rw is (search (rules, stmt_folds))) (code-continue all s.line) none_more
  agree s (is_task mark body is h) = agrees s (stmts.Task mark body) (open_stmt.Task mark body) _ is (rw is (search (rules, stmt_folds))) (code-task all s.line mark body) none_more
  agree s (is_task_loop head body is h) = agrees s (stmts.TaskLoop head body) (open_stmt.TaskLoop head body) _ is (rw is (search (rules, stmt_folds))) (code-task_loop all s.line head body) none_more
  agree s (is_wait sections is) = agrees s (stmts.TaskWait sections) (open_stmt.TaskWait sections) _ is (rw is (search (rules, stmt_folds))) (code-task_wait all s.line sections) none_more
  agree s (is_release clauses is) = agrees s (stmts.Release clauses) (open_stmt.Release clauses) _ is (rw is (search (rules, stmt_folds))) (code-release all s.line clauses) none_more

pub scopes_agree : ScopesAgree
scopes_agree all = stmt_induction (Agrees all) (agree all)
