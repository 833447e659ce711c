-- Each statement goes on calmly, if its releases have dependencies alone.
use Rattle.std.proofs.Common.{◌≡◌, ◌∙◌, true, List, [], ◌∷◌, Option, Some, None, option_map, sym, subst}
use Rattle.std.specs.Prelude.{◌&&◌}
use Rattle.oss_syntax.specs.declared.tree.program.Item.{Item}
use Rattle.oss_syntax.specs.declared.tree.stmt.Stmt.{Stmt}
use Rattle.oss_syntax.specs.declared.tree.stmt.StmtKind.TheVariants as stmts
use Rattle.oss_grammar.proofs.TreeInduction.{Any, Each, StmtParts, stmt_induction}
use Rattle.oss_grammar.proofs.TreeInduction.Any.{any_none, any_some}
use Rattle.oss_grammar.proofs.TreeInduction.Each.{each_none, each_more}
use Rattle.oss_grammar.proofs.TreeInduction.StmtParts.{is_assign, is_block, is_break, is_call, is_continue, is_declare, is_empty, is_for, is_if, is_print, is_release, is_return, is_task, is_task_loop, is_wait, is_while}
use Rattle.oss_meaning.specs.Statements.{Meaning, assignment, call_done, meaning_of, meanings_of, nothing_done, print_done, release_done, returned, wait_done}
use Rattle.oss_meaning.proofs.FormLemmas.{meaning-assign, meaning-block, meaning-break, meaning-call, meaning-continue, meaning-declare, meaning-empty, meaning-for, meaning-if, meaning-print, meaning-release, meaning-return, meaning-task, meaning-task_loop, meaning-task_wait, meaning-while}
use Rattle.oss_missing_program_laws.specs.Asks.{body_releases, part_holds, releases_dependencies}
use Rattle.oss_missing_program_laws.proofs.CalmClauses.{and_left, and_right}
use Rattle.oss_missing_program_laws.proofs.CalmMeanings.{AllSteady, PartSteady, Steady, block_steady, leaf_steady}
use Rattle.oss_missing_program_laws.proofs.CalmNested.{choice_steady, for_steady, task_steady}
use Rattle.oss_missing_program_laws.proofs.CalmSimple.{assignment_calm, call_calm, declare_steady, print_calm, releases_calm, return_calm, wait_calm}
use Rattle.oss_missing_program_laws.proofs.ReleaseForms.{releases-block, releases-for, releases-if, releases-release, releases-task, releases-while}

module _ (W : Type 0) (all : List Item) where
  -- a statement of which each release has dependencies alone under W
  abbrev IsCalm : Stmt → Type 0
  IsCalm s = (W → releases_dependencies s ≡ true) → Steady W (meaning_of all s)

  part_steady : {o : Option Stmt} → Any IsCalm o → (W → part_holds (option_map releases_dependencies o) ≡ true) → PartSteady W (option_map (meaning_of all) o)
  part_steady any_none fine = tt
  part_steady (any_some ok) fine = ok fine

  each_steady : {ss : List Stmt} → Each IsCalm ss → (W → body_releases ss ≡ true) → AllSteady W (meanings_of all ss)
  each_steady each_none fine = tt
  each_steady (each_more {x} {xs} ok oks) fine =
      (ok (λ w. and_left (releases_dependencies x) (body_releases xs) (fine w)), each_steady oks (λ w. and_right (releases_dependencies x) (body_releases xs) (fine w)))

  shown : (s : Stmt) (m : Meaning) → meaning_of all s ≡ m → Steady W m → Steady W (meaning_of all s)
  shown s m is steady = subst (λ k. Steady W k) (sym is) steady

  step : (s : Stmt) → StmtParts IsCalm s.what → IsCalm s
  step s (is_block body is oks) = subst (λ w. IsCalm (record { what = w; line = s.line })) (sym is) (λ fine.
      shown (record { what = stmts.Block body; line = s.line }) _ (meaning-block all s.line body)
      (block_steady W (meanings_of all body) (each_steady oks (λ w. sym (releases-block s.line body) ∙ fine w))))
  step s (is_empty is) = subst (λ w. IsCalm (record { what = w; line = s.line })) (sym is) (λ fine.
      shown (record { what = stmts.Empty; line = s.line }) _ (meaning-empty all s.line)
      (leaf_steady W s.line nothing_done (λ around x y z h a b c ways locals. ways.next locals)))
  step s (is_declare ls is) = subst (λ w. IsCalm (record { what = w; line = s.line })) (sym is) (λ fine.
      shown (record { what = stmts.Declare ls; line = s.line }) _ (meaning-declare all s.line ls) (declare_steady W all s.line ls))
  step s (is_assign t o e is) = subst (λ w. IsCalm (record { what = w; line = s.line })) (sym is) (λ fine.
      shown (record { what = stmts.Assign t o e; line = s.line }) _ (meaning-assign all s.line t o e)
      (leaf_steady W s.line (assignment all s.line t o e) (assignment_calm W all s.line t o e)))
  step s (is_call name es is) = subst (λ w. IsCalm (record { what = w; line = s.line })) (sym is) (λ fine.
      shown (record { what = stmts.Call name es; line = s.line }) _ (meaning-call all s.line name es)
      (leaf_steady W s.line (call_done all s.line name es) (call_calm W all s.line name es)))
  step s (is_print format es is) = subst (λ w. IsCalm (record { what = w; line = s.line })) (sym is) (λ fine.
      shown (record { what = stmts.Print format es; line = s.line }) _ (meaning-print all s.line format es)
      (leaf_steady W s.line (print_done all s.line format es) (print_calm W all s.line format es)))
  step s (is_if e t o is ok any) = subst (λ w. IsCalm (record { what = w; line = s.line })) (sym is) (λ fine.
      shown (record { what = stmts.If e t o; line = s.line }) _ (meaning-if all s.line e t o)
      (choice_steady W all s.line e (meaning_of all t) (option_map (meaning_of all) o)
      (ok (λ w. and_left (releases_dependencies t) (part_holds (option_map releases_dependencies o)) (sym (releases-if s.line e t o) ∙ fine w)))
      (part_steady any (λ w. and_right (releases_dependencies t) (part_holds (option_map releases_dependencies o)) (sym (releases-if s.line e t o) ∙ fine w)))))
  step s (is_while e t is ok) = subst (λ w. IsCalm (record { what = w; line = s.line })) (sym is) (λ fine.
      shown (record { what = stmts.While e t; line = s.line }) _ (meaning-while all s.line e t)
      (for_steady W all s.line (Some e) None (meaning_of all t) tt (ok (λ w. sym (releases-while s.line e t) ∙ fine w)) None tt))
  step s (is_for f e l t is first last ok) = subst (λ w. IsCalm (record { what = w; line = s.line })) (sym is) (λ fine.
      let parts = λ (w : W). sym (releases-for s.line f e l t) ∙ fine w in
      let behind = λ (w : W). and_right (part_holds (option_map releases_dependencies f)) (part_holds (option_map releases_dependencies l) && releases_dependencies t) (parts w) in
      shown (record { what = stmts.For f e l t; line = s.line }) _ (meaning-for all s.line f e l t)
      (for_steady W all s.line e (option_map (meaning_of all) l) (meaning_of all t)
      (part_steady last (λ w. and_left (part_holds (option_map releases_dependencies l)) (releases_dependencies t) (behind w)))
      (ok (λ w. and_right (part_holds (option_map releases_dependencies l)) (releases_dependencies t) (behind w)))
      (option_map (meaning_of all) f)
      (part_steady first (λ w. and_left (part_holds (option_map releases_dependencies f)) (part_holds (option_map releases_dependencies l) && releases_dependencies t) (parts w)))))
  step s (is_return e is) = subst (λ w. IsCalm (record { what = w; line = s.line })) (sym is) (λ fine.
      shown (record { what = stmts.Return e; line = s.line }) _ (meaning-return all s.line e) (leaf_steady W s.line (returned all s.line e) (return_calm W all s.line e)))
  step s (is_break is) = subst (λ w. IsCalm (record { what = w; line = s.line })) (sym is) (λ fine.
      shown (record { what = stmts.Break; line = s.line }) _ (meaning-break all s.line)
      (leaf_steady W s.line (λ around here ways locals. ways.stop locals) (λ around x y z h a b c ways locals. ways.stop locals)))
  step s (is_continue is) = subst (λ w. IsCalm (record { what = w; line = s.line })) (sym is) (λ fine.
      shown (record { what = stmts.Continue; line = s.line }) _ (meaning-continue all s.line)
      (leaf_steady W s.line (λ around here ways locals. ways.again locals) (λ around x y z h a b c ways locals. ways.again locals)))
  step s (is_task mark t is ok) = subst (λ w. IsCalm (record { what = w; line = s.line })) (sym is) (λ fine.
      shown (record { what = stmts.Task mark t; line = s.line }) _ (meaning-task all s.line mark t)
      (task_steady W all s.line mark.clauses (meaning_of all t) (ok (λ w. sym (releases-task s.line mark t) ∙ fine w))))
  step s (is_task_loop head t is ok) = subst (λ w. IsCalm (record { what = w; line = s.line })) (sym is) (λ fine.
      shown (record { what = stmts.TaskLoop head t; line = s.line }) _ (meaning-task_loop all s.line head t)
      (leaf_steady W s.line nothing_done (λ around x y z h a b c ways locals. ways.next locals)))
  step s (is_wait sections is) = subst (λ w. IsCalm (record { what = w; line = s.line })) (sym is) (λ fine.
      shown (record { what = stmts.TaskWait sections; line = s.line }) _ (meaning-task_wait all s.line sections)
      (leaf_steady W s.line (wait_done all s.line sections) (wait_calm W all s.line sections)))
  step s (is_release clauses is) = subst (λ w. IsCalm (record { what = w; line = s.line })) (sym is) (λ fine.
      shown (record { what = stmts.Release clauses; line = s.line }) _ (meaning-release all s.line clauses)
      (leaf_steady W s.line (release_done all s.line clauses) (releases_calm W all s.line clauses (λ w. sym (releases-release s.line clauses) ∙ fine w))))

  statement_steady : (s : Stmt) → IsCalm s
  statement_steady = stmt_induction IsCalm step

  -- So does a list of them.
  pub statements_steady : (ss : List Stmt) → (W → body_releases ss ≡ true) → AllSteady W (meanings_of all ss)
  statements_steady [] fine = tt
  statements_steady (s ∷ rest) fine =
      (statement_steady s (λ w. and_left (releases_dependencies s) (body_releases rest) (fine w)), statements_steady rest (λ w. and_right (releases_dependencies s) (body_releases rest) (fine w)))
