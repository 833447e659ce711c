-- A statement, and the statement with its multidependencies unrolled, are alike where calls and declarations fit.
use Rattle.std.proofs.Common.{◌≡◌, ◌∙◌, Bool, true, false, List, [], ◌∷◌, map, Option, Some, None, option_map, refl, sym, ap, subst, arith}
use Rattle.std.specs.Prelude.{not}
use Rattle.oss_syntax.specs.declared.tree.pragma.Section.{Section}
use Rattle.oss_syntax.specs.declared.tree.program.Item.{Item}
use Rattle.oss_syntax.specs.declared.tree.stmt.Stmt.{Stmt}
use Rattle.oss_syntax.specs.declared.tree.stmt.StmtKind.TheVariants as stmts
use Rattle.oss_grammar.proofs.TreeInduction.{Any, Each, StmtParts, stmt_induction}
use Rattle.oss_grammar.proofs.TreeInduction.Any.{any_none, any_some}
use Rattle.oss_grammar.proofs.TreeInduction.Each.{each_none, each_more}
use Rattle.oss_grammar.proofs.TreeInduction.StmtParts.{is_assign, is_block, is_break, is_call, is_continue, is_declare, is_empty, is_for, is_if, is_print, is_release, is_return, is_task, is_task_loop, is_wait, is_while}
use Rattle.oss_meaning.specs.Statements.{Meaning, assignment, call_done, meaning_of, meanings_of, nothing_done, print_done, release_done, returned, wait_done}
use Rattle.oss_meaning.proofs.FormLemmas.{meaning-assign, meaning-block, meaning-break, meaning-call, meaning-continue, meaning-declare, meaning-empty, meaning-for, meaning-if, meaning-print, meaning-release, meaning-return, meaning-task, meaning-task_loop, meaning-task_wait, meaning-while}
use Rattle.oss_multidependency_laws.specs.Fitting.{Shape, body_fits, clauses_fit, fits, optional_fits, part_fits, part_stands, shape_of, shapes_fit, stands}
use Rattle.oss_multidependency_laws.specs.Unrolling.{items_unrolled, unrolled, unrolled_clauses, unrolled_mark, unrolled_sections}
use Rattle.oss_multidependency_laws.proofs.AlikeExpressions.{and_left, and_right}
use Rattle.oss_multidependency_laws.proofs.AlikeMeanings.{Alike, after_alike, boxed_alike, leaf_alike, listed, loosened, nothing_alike, part}
use Rattle.oss_multidependency_laws.proofs.AlikeNested.{choice_alike, for_alike, task_alike}
use Rattle.oss_multidependency_laws.proofs.AlikeSimple.{assignment_like, call_like, declare_alike, print_like, release_like, return_like, wait_like}
use Rattle.oss_multidependency_laws.proofs.UnrolledForms.{shape-assign, shape-block, shape-break, shape-call, shape-continue, shape-declare, shape-empty, shape-for, shape-if, shape-print, shape-release, shape-return, shape-task, shape-task_loop, shape-wait, shape-while, unrolled-assign, unrolled-block, unrolled-break, unrolled-call, unrolled-continue, unrolled-declare, unrolled-empty, unrolled-for, unrolled-if, unrolled-print, unrolled-release, unrolled-return, unrolled-task, unrolled-task_loop, unrolled-wait, unrolled-while}

abbrev IsYes : Bool → Type 0
IsYes true = Unit {0}
IsYes false = ⊥

not_so : (b : Bool) → not b ≡ true → b ≡ false
not_so true e = absurd (subst IsYes (sym e) tt)
not_so false e = refl

module _ (chosen : Section → Bool) (all : List Item) where
  abbrev flat : List Item
  flat = items_unrolled chosen all

  -- a statement that fits, and the statement unrolled
  abbrev IsAlike : Stmt → Type 0
  IsAlike s = (shape_of all s).fits ≡ true → Alike all (shape_of all s).declares (meaning_of all s) (meaning_of flat (unrolled chosen s))

  -- one that may stand anywhere
  standing : (s : Stmt) → IsAlike s → stands (shape_of all s) ≡ true → Alike all false (meaning_of all s) (meaning_of flat (unrolled chosen s))
  standing s ok fit =
      subst (λ c. Alike all c (meaning_of all s) (meaning_of flat (unrolled chosen s))) (not_so (shape_of all s).declares (and_left (not (shape_of all s).declares) (shape_of all s).fits fit))
      (ok (and_right (not (shape_of all s).declares) (shape_of all s).fits fit))

  part_standing : {o : Option Stmt} → Any IsAlike o → part_stands (option_map (shape_of all) o) ≡ true
      → Alike all false (part all (option_map (meaning_of all) o)) (part all (option_map (meaning_of flat) (option_map (unrolled chosen) o)))
  part_standing any_none fit = nothing_alike all false
  part_standing (any_some {x} ok) fit = standing x ok fit

  part_fitting : {o : Option Stmt} → Any IsAlike o → part_fits (option_map (shape_of all) o) ≡ true
      → Alike all true (part all (option_map (meaning_of all) o)) (part all (option_map (meaning_of flat) (option_map (unrolled chosen) o)))
  part_fitting any_none fit = nothing_alike all true
  part_fitting (any_some {x} ok) fit = loosened all (shape_of all x).declares (meaning_of all x) (meaning_of flat (unrolled chosen x)) (ok fit)

  each_alike : {ss : List Stmt} → Each IsAlike ss → shapes_fit (map (shape_of all) ss) ≡ true → Alike all true (listed all (meanings_of all ss)) (listed all (meanings_of flat (map (unrolled chosen) ss)))
  each_alike each_none fit = nothing_alike all true
  each_alike (each_more {x} {xs} ok oks) fit =
      after_alike all (shape_of all x).declares true (meaning_of all x) (meaning_of flat (unrolled chosen x)) (listed all (meanings_of all xs)) (listed all (meanings_of flat (map (unrolled chosen) xs)))
      (ok (and_left (shape_of all x).fits (shapes_fit (map (shape_of all) xs)) fit)) (each_alike oks (and_right (shape_of all x).fits (shapes_fit (map (shape_of all) xs)) fit))

  shown : (s : Stmt) (z : Shape) (m k : Meaning) → shape_of all s ≡ z → meaning_of all s ≡ m → meaning_of flat (unrolled chosen s) ≡ k → (z.fits ≡ true → Alike all z.declares m k) → IsAlike s
  shown s z m k is left right ok fit =
      subst (λ (c : Shape). Alike all c.declares (meaning_of all s) (meaning_of flat (unrolled chosen s))) (sym is)
      (subst (λ n. Alike all z.declares n (meaning_of flat (unrolled chosen s))) (sym left)
      (subst (λ n. Alike all z.declares m n) (sym right) (ok (ap (λ (c : Shape). c.fits) (sym is) ∙ fit))))

  step : (s : Stmt) → StmtParts IsAlike s.what → IsAlike s
  step s (is_block body is oks) = subst (λ w. IsAlike (record { what = w; line = s.line })) (sym is)
      (shown (record { what = stmts.Block body; line = s.line }) _ _ _ (shape-block all s.line body) (meaning-block all s.line body)
      (ap (meaning_of flat) (unrolled-block chosen s.line body) ∙ meaning-block flat s.line (map (unrolled chosen) body))
      (λ fit. boxed_alike all true (listed all (meanings_of all body)) (listed all (meanings_of flat (map (unrolled chosen) body))) (each_alike oks fit)))
  step s (is_empty is) = subst (λ w. IsAlike (record { what = w; line = s.line })) (sym is)
      (shown (record { what = stmts.Empty; line = s.line }) _ _ _ (shape-empty all s.line) (meaning-empty all s.line)
      (ap (meaning_of flat) (unrolled-empty chosen s.line) ∙ meaning-empty flat s.line)
      (λ fit. leaf_alike all s.line nothing_done nothing_done (λ total around x y h low few a b ways locals size. ways.next locals size)))
  step s (is_declare ls is) = subst (λ w. IsAlike (record { what = w; line = s.line })) (sym is)
      (shown (record { what = stmts.Declare ls; line = s.line }) _ _ _ (shape-declare all s.line ls) (meaning-declare all s.line ls)
      (ap (meaning_of flat) (unrolled-declare chosen s.line ls) ∙ meaning-declare flat s.line ls) (λ fit. declare_alike chosen all s.line ls fit))
  step s (is_assign t o e is) = subst (λ w. IsAlike (record { what = w; line = s.line })) (sym is)
      (shown (record { what = stmts.Assign t o e; line = s.line }) _ _ _ (shape-assign all s.line t o e) (meaning-assign all s.line t o e)
      (ap (meaning_of flat) (unrolled-assign chosen s.line t o e) ∙ meaning-assign flat s.line t o e)
      (λ fit. leaf_alike all s.line (assignment all s.line t o e) (assignment flat s.line t o e)
      (λ total around. assignment_like chosen all total s.line t o e (and_left (fits all t) (fits all e) fit) (and_right (fits all t) (fits all e) fit) around)))
  step s (is_call name es is) = subst (λ w. IsAlike (record { what = w; line = s.line })) (sym is)
      (shown (record { what = stmts.Call name es; line = s.line }) _ _ _ (shape-call all s.line name es) (meaning-call all s.line name es)
      (ap (meaning_of flat) (unrolled-call chosen s.line name es) ∙ meaning-call flat s.line name es)
      (λ fit. leaf_alike all s.line (call_done all s.line name es) (call_done flat s.line name es) (λ total around. call_like chosen all total s.line name es fit around)))
  step s (is_print format es is) = subst (λ w. IsAlike (record { what = w; line = s.line })) (sym is)
      (shown (record { what = stmts.Print format es; line = s.line }) _ _ _ (shape-print all s.line format es) (meaning-print all s.line format es)
      (ap (meaning_of flat) (unrolled-print chosen s.line format es) ∙ meaning-print flat s.line format es)
      (λ fit. leaf_alike all s.line (print_done all s.line format es) (print_done flat s.line format es) (λ total around. print_like chosen all total s.line format es fit around)))
  step s (is_if e t o is ok any) = subst (λ w. IsAlike (record { what = w; line = s.line })) (sym is)
      (shown (record { what = stmts.If e t o; line = s.line }) _ _ _ (shape-if all s.line e t o) (meaning-if all s.line e t o)
      (ap (meaning_of flat) (unrolled-if chosen s.line e t o) ∙ meaning-if flat s.line e (unrolled chosen t) (option_map (unrolled chosen) o))
      (λ fit. choice_alike chosen all s.line e (and_left (fits all e) _ fit) (meaning_of all t) (meaning_of flat (unrolled chosen t)) (option_map (meaning_of all) o) (option_map (meaning_of flat) (option_map (unrolled chosen) o))
      (standing t ok (and_left (stands (shape_of all t)) _ (and_right (fits all e) _ fit))) (part_standing any (and_right (stands (shape_of all t)) _ (and_right (fits all e) _ fit)))))
  step s (is_while e t is ok) = subst (λ w. IsAlike (record { what = w; line = s.line })) (sym is)
      (shown (record { what = stmts.While e t; line = s.line }) _ _ _ (shape-while all s.line e t) (meaning-while all s.line e t)
      (ap (meaning_of flat) (unrolled-while chosen s.line e t) ∙ meaning-while flat s.line e (unrolled chosen t))
      (λ fit. for_alike chosen all s.line (Some e) (and_left (fits all e) (stands (shape_of all t)) fit) None None (meaning_of all t) (meaning_of flat (unrolled chosen t)) (nothing_alike all false)
      (standing t ok (and_right (fits all e) (stands (shape_of all t)) fit)) true None None (nothing_alike all true)))
  step s (is_for f e l t is first last ok) = subst (λ w. IsAlike (record { what = w; line = s.line })) (sym is)
      (shown (record { what = stmts.For f e l t; line = s.line }) _ _ _ (shape-for all s.line f e l t) (meaning-for all s.line f e l t)
      (ap (meaning_of flat) (unrolled-for chosen s.line f e l t) ∙ meaning-for flat s.line (option_map (unrolled chosen) f) e (option_map (unrolled chosen) l) (unrolled chosen t))
      (λ fit.
      let behind_first = and_right (part_fits (option_map (shape_of all) f)) _ fit in
      let behind_test = and_right (optional_fits all e) _ behind_first in
      for_alike chosen all s.line e (and_left (optional_fits all e) _ behind_first) (option_map (meaning_of all) l) (option_map (meaning_of flat) (option_map (unrolled chosen) l)) (meaning_of all t) (meaning_of flat (unrolled chosen t))
      (part_standing last (and_left (part_stands (option_map (shape_of all) l)) _ behind_test)) (standing t ok (and_right (part_stands (option_map (shape_of all) l)) _ behind_test))
      true (option_map (meaning_of all) f) (option_map (meaning_of flat) (option_map (unrolled chosen) f)) (part_fitting first (and_left (part_fits (option_map (shape_of all) f)) _ fit))))
  step s (is_return e is) = subst (λ w. IsAlike (record { what = w; line = s.line })) (sym is)
      (shown (record { what = stmts.Return e; line = s.line }) _ _ _ (shape-return all s.line e) (meaning-return all s.line e)
      (ap (meaning_of flat) (unrolled-return chosen s.line e) ∙ meaning-return flat s.line e)
      (λ fit. leaf_alike all s.line (returned all s.line e) (returned flat s.line e) (λ total around. return_like chosen all total s.line e fit around)))
  step s (is_break is) = subst (λ w. IsAlike (record { what = w; line = s.line })) (sym is)
      (shown (record { what = stmts.Break; line = s.line }) _ _ _ (shape-break all s.line) (meaning-break all s.line)
      (ap (meaning_of flat) (unrolled-break chosen s.line) ∙ meaning-break flat s.line)
      (λ fit. leaf_alike all s.line (λ around here ways locals. ways.stop locals) (λ around here ways locals. ways.stop locals) (λ total around x y h low few a b ways locals size. ways.stop locals (omega (arith, few, size)))))
  step s (is_continue is) = subst (λ w. IsAlike (record { what = w; line = s.line })) (sym is)
      (shown (record { what = stmts.Continue; line = s.line }) _ _ _ (shape-continue all s.line) (meaning-continue all s.line)
      (ap (meaning_of flat) (unrolled-continue chosen s.line) ∙ meaning-continue flat s.line)
      (λ fit. leaf_alike all s.line (λ around here ways locals. ways.again locals) (λ around here ways locals. ways.again locals) (λ total around x y h low few a b ways locals size. ways.again locals (omega (arith, few, size)))))
  step s (is_task mark t is ok) = subst (λ w. IsAlike (record { what = w; line = s.line })) (sym is)
      (shown (record { what = stmts.Task mark t; line = s.line }) _ _ _ (shape-task all s.line mark t) (meaning-task all s.line mark t)
      (ap (meaning_of flat) (unrolled-task chosen s.line mark t) ∙ meaning-task flat s.line (unrolled_mark chosen mark) (unrolled chosen t))
      (λ fit. task_alike chosen all s.line mark.clauses (and_left (clauses_fit all mark.clauses) (stands (shape_of all t)) fit) false (meaning_of all t) (meaning_of flat (unrolled chosen t))
      (standing t ok (and_right (clauses_fit all mark.clauses) (stands (shape_of all t)) fit))))
  step s (is_task_loop head t is ok) = subst (λ w. IsAlike (record { what = w; line = s.line })) (sym is)
      (shown (record { what = stmts.TaskLoop head t; line = s.line }) _ _ _ (shape-task_loop all s.line head t) (meaning-task_loop all s.line head t)
      (ap (meaning_of flat) (unrolled-task_loop chosen s.line head t) ∙ meaning-task_loop flat s.line (record head { mark = unrolled_mark chosen head.mark }) (unrolled chosen t))
      (λ fit. leaf_alike all s.line nothing_done nothing_done (λ total around x y h low few a b ways locals size. ways.next locals size)))
  step s (is_wait sections is) = subst (λ w. IsAlike (record { what = w; line = s.line })) (sym is)
      (shown (record { what = stmts.TaskWait sections; line = s.line }) _ _ _ (shape-wait all s.line sections) (meaning-task_wait all s.line sections)
      (ap (meaning_of flat) (unrolled-wait chosen s.line sections) ∙ meaning-task_wait flat s.line (option_map (unrolled_sections chosen) sections))
      (λ fit. leaf_alike all s.line (wait_done all s.line sections) (wait_done flat s.line (option_map (unrolled_sections chosen) sections)) (λ total around. wait_like chosen all total s.line sections fit around)))
  step s (is_release clauses is) = subst (λ w. IsAlike (record { what = w; line = s.line })) (sym is)
      (shown (record { what = stmts.Release clauses; line = s.line }) _ _ _ (shape-release all s.line clauses) (meaning-release all s.line clauses)
      (ap (meaning_of flat) (unrolled-release chosen s.line clauses) ∙ meaning-release flat s.line (unrolled_clauses chosen clauses))
      (λ fit. leaf_alike all s.line (release_done all s.line clauses) (release_done flat s.line (unrolled_clauses chosen clauses)) (λ total around. release_like chosen all total s.line clauses fit around)))

  -- Each statement that fits is alike.
  pub statement_alike : (s : Stmt) → IsAlike s
  statement_alike = stmt_induction IsAlike step

  -- So are the statements of a function.
  pub statements_alike : (ss : List Stmt) → body_fits all ss ≡ true → Alike all true (listed all (meanings_of all ss)) (listed all (meanings_of flat (map (unrolled chosen) ss)))
  statements_alike [] fit = nothing_alike all true
  statements_alike (x ∷ xs) fit =
      after_alike all (shape_of all x).declares true (meaning_of all x) (meaning_of flat (unrolled chosen x)) (listed all (meanings_of all xs)) (listed all (meanings_of flat (map (unrolled chosen) xs)))
      (statement_alike x (and_left (shape_of all x).fits (body_fits all xs) fit)) (statements_alike xs (and_right (shape_of all x).fits (body_fits all xs) fit))
