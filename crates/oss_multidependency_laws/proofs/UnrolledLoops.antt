-- A program is the same with its multidependencies unrolled before or after its task loops are written out.
use Rattle.std.proofs.Common.{◌≡◌, ◌∙◌, ℕ, Bool, List, [], ◌∷◌, map, Option, Some, None, option_map, refl, sym, ap, subst}
use Rattle.oss_syntax.specs.declared.tree.expr.BinOp.TheVariants as op
use Rattle.oss_syntax.specs.declared.tree.expr.Expr.{Expr}
use Rattle.oss_syntax.specs.declared.tree.pragma.Clause.{Clause}
use Rattle.oss_syntax.specs.declared.tree.pragma.Clause.TheVariants as clause
use Rattle.oss_syntax.specs.declared.tree.pragma.Section.{Section}
use Rattle.oss_syntax.specs.declared.tree.program.Item.{Item}
use Rattle.oss_syntax.specs.declared.tree.program.Item.TheVariants as items
use Rattle.oss_syntax.specs.declared.tree.stmt.LoopHead.{LoopHead}
use Rattle.oss_syntax.specs.declared.tree.stmt.Stmt.{Stmt}
use Rattle.oss_syntax.specs.declared.tree.stmt.StmtKind.TheVariants as stmts
use Rattle.oss_grammar.specs.TaskLoops.{begin_name, end_name, first_of, grain_name, grain_of, item_written, joined_at, long_at, name_at, number_at, set_at, stmt_at, stop_name, task_clauses, written, written_out}
use Rattle.oss_grammar.proofs.TreeInduction.{Any, Each, StmtParts, stmt_induction}
use Rattle.oss_grammar.proofs.TreeInduction.Any.{any_none, any_some}
use Rattle.oss_grammar.proofs.TreeInduction.Each.{each_none, each_more}
use Rattle.oss_grammar.proofs.TreeInduction.StmtParts.{is_assign, is_block, is_break, is_call, is_continue, is_declare, is_empty, is_for, is_if, is_print, is_release, is_return, is_task, is_task_loop, is_wait, is_while}
use Rattle.oss_multidependency_laws.specs.Unrolling.{items_unrolled, unrolled, unrolled_clauses, unrolled_mark, unrolled_sections}
use Rattle.oss_multidependency_laws.proofs.UnrolledForms.{unrolled-assign, unrolled-block, unrolled-break, unrolled-call, unrolled-continue, unrolled-declare, unrolled-empty, unrolled-for, unrolled-if, unrolled-print, unrolled-release, unrolled-return, unrolled-task, unrolled-task_loop, unrolled-wait, unrolled-while}
use Rattle.oss_multidependency_laws.proofs.WrittenShapes.{written-assign, written-block, written-break, written-call, written-continue, written-declare, written-empty, written-for, written-if, written-print, written-release, written-return, written-task, written-task_loop, written-wait, written-while}

-- The parts of a task loop written out, over what its head and its clauses give.
module _ (line : ℕ) (head : LoopHead) (first grain : Expr) (clauses : List Clause) (body : Stmt) where
  abbrev turns_with : Stmt
  turns_with = stmt_at head.for_line (stmts.For None
      (Some (joined_at head.for_line op.Less (name_at head.for_line head.variable.name) (name_at head.for_line stop_name)))
      (Some (stmt_at head.for_line (stmts.Assign (name_at head.for_line head.variable.name) (Some op.Add) (number_at head.for_line 1))))
      body)

  abbrev task_with : Stmt
  task_with = stmt_at line (stmts.Task (record { clauses = clauses; line = head.mark.line }) turns_with)

  abbrev names_with : Stmt
  names_with = stmt_at line (stmts.Declare (long_at line head.variable.name (name_at line begin_name) ∷ long_at line stop_name (name_at line end_name) ∷ []))

  abbrev shorter_with : Stmt
  shorter_with = stmt_at line (stmts.If (joined_at line op.More (joined_at line op.Sub (name_at line end_name) (name_at line begin_name)) (name_at line grain_name))
      (set_at line stop_name (joined_at line op.Add (name_at line begin_name) (name_at line grain_name))) None)

  abbrev round_with : Stmt
  round_with = stmt_at line (stmts.Block (names_with ∷ shorter_with ∷ task_with ∷ set_at line begin_name (name_at line stop_name) ∷ []))

  abbrev limits_with : Stmt
  limits_with = stmt_at line (stmts.Declare (long_at line begin_name first ∷ long_at line end_name head.end ∷ long_at line grain_name grain ∷ []))

  abbrev raised_with : Stmt
  raised_with = stmt_at line (stmts.If (joined_at line op.Less (name_at line grain_name) (number_at line 1)) (set_at line grain_name (number_at line 1)) None)

  abbrev turning_with : Stmt
  turning_with = stmt_at line (stmts.While (joined_at line op.Less (name_at line begin_name) (name_at line end_name)) round_with)

  abbrev loop_with : Stmt
  loop_with = stmt_at line (stmts.Block (limits_with ∷ raised_with ∷ turning_with ∷ []))

module _ (chosen : Section → Bool) where
  grain_same : (line : ℕ) (cs : List Clause) → grain_of line (unrolled_clauses chosen cs) ≡ grain_of line cs
  grain_same line [] = refl
  grain_same line (clause.Grain e ∷ rest) = refl
  grain_same line (clause.Depend m strong fresh sections ∷ rest) = grain_same line rest
  grain_same line (clause.If e ∷ rest) = grain_same line rest
  grain_same line (clause.Final e ∷ rest) = grain_same line rest
  grain_same line (clause.Wait ∷ rest) = grain_same line rest
  grain_same line (clause.Label name ∷ rest) = grain_same line rest
  grain_same line (clause.Priority e ∷ rest) = grain_same line rest

  clauses_same : (cs : List Clause) → task_clauses (unrolled_clauses chosen cs) ≡ unrolled_clauses chosen (task_clauses cs)
  clauses_same [] = refl
  clauses_same (clause.Grain e ∷ rest) = clauses_same rest
  clauses_same (clause.Depend m strong fresh sections ∷ rest) = ap (λ l. clause.Depend m strong fresh (unrolled_sections chosen sections) ∷ l) (clauses_same rest)
  clauses_same (clause.If e ∷ rest) = ap (λ l. clause.If e ∷ l) (clauses_same rest)
  clauses_same (clause.Final e ∷ rest) = ap (λ l. clause.Final e ∷ l) (clauses_same rest)
  clauses_same (clause.Wait ∷ rest) = ap (λ l. clause.Wait ∷ l) (clauses_same rest)
  clauses_same (clause.Label name ∷ rest) = ap (λ l. clause.Label name ∷ l) (clauses_same rest)
  clauses_same (clause.Priority e ∷ rest) = ap (λ l. clause.Priority e ∷ l) (clauses_same rest)

  module _ (line : ℕ) (head : LoopHead) (first grain : Expr) (clauses : List Clause) (body : Stmt) where
    abbrev after : List Clause
    after = unrolled_clauses chosen clauses

    turns_unrolled : unrolled chosen (turns_with line head first grain clauses body) ≡ turns_with line head first grain after (unrolled chosen body)
    turns_unrolled =
        let step : Stmt = stmt_at head.for_line (stmts.Assign (name_at head.for_line head.variable.name) (Some op.Add) (number_at head.for_line 1)) in
        let test = joined_at head.for_line op.Less (name_at head.for_line head.variable.name) (name_at head.for_line stop_name) in
        unrolled-for chosen head.for_line None (Some test) (Some step) body
        ∙ ap (λ s. stmt_at head.for_line (stmts.For None (Some test) (Some s) (unrolled chosen body))) (unrolled-assign chosen head.for_line (name_at head.for_line head.variable.name) (Some op.Add) (number_at head.for_line 1))

    task_unrolled : unrolled chosen (task_with line head first grain clauses body) ≡ task_with line head first grain after (unrolled chosen body)
    task_unrolled =
        unrolled-task chosen line (record { clauses = clauses; line = head.mark.line }) (turns_with line head first grain clauses body)
        ∙ ap (λ s. stmt_at line (stmts.Task (record { clauses = after; line = head.mark.line }) s)) turns_unrolled

    set_unrolled : (name : List ℕ) (e : Expr) → unrolled chosen (set_at line name e) ≡ set_at line name e
    set_unrolled name e = unrolled-assign chosen line (name_at line name) None e

    if_unrolled : (test : Expr) (name : List ℕ) (e : Expr) → unrolled chosen (stmt_at line (stmts.If test (set_at line name e) None)) ≡ stmt_at line (stmts.If test (set_at line name e) None)
    if_unrolled test name e = unrolled-if chosen line test (set_at line name e) None ∙ ap (λ s. stmt_at line (stmts.If test s None)) (set_unrolled name e)

    round_unrolled : unrolled chosen (round_with line head first grain clauses body) ≡ round_with line head first grain after (unrolled chosen body)
    round_unrolled =
        unrolled-block chosen line (names_with line head first grain clauses body ∷ shorter_with line head first grain clauses body ∷ task_with line head first grain clauses body ∷ set_at line begin_name (name_at line stop_name) ∷ [])
        ∙ (λ i. stmt_at line (stmts.Block (
        unrolled-declare chosen line (long_at line head.variable.name (name_at line begin_name) ∷ long_at line stop_name (name_at line end_name) ∷ []) i
        ∷ if_unrolled (joined_at line op.More (joined_at line op.Sub (name_at line end_name) (name_at line begin_name)) (name_at line grain_name)) stop_name (joined_at line op.Add (name_at line begin_name) (name_at line grain_name)) i
        ∷ task_unrolled i
        ∷ set_unrolled begin_name (name_at line stop_name) i
        ∷ [])))

    loop_unrolled : unrolled chosen (loop_with line head first grain clauses body) ≡ loop_with line head first grain after (unrolled chosen body)
    loop_unrolled =
        unrolled-block chosen line (limits_with line head first grain clauses body ∷ raised_with line head first grain clauses body ∷ turning_with line head first grain clauses body ∷ [])
        ∙ (λ i. stmt_at line (stmts.Block (
        unrolled-declare chosen line (long_at line begin_name first ∷ long_at line end_name head.end ∷ long_at line grain_name grain ∷ []) i
        ∷ if_unrolled (joined_at line op.Less (name_at line grain_name) (number_at line 1)) grain_name (number_at line 1) i
        ∷ (unrolled-while chosen line (joined_at line op.Less (name_at line begin_name) (name_at line end_name)) (round_with line head first grain clauses body)
        ∙ ap (λ s. stmt_at line (stmts.While (joined_at line op.Less (name_at line begin_name) (name_at line end_name)) s)) round_unrolled) i
        ∷ [])))

  written_unrolled : (line : ℕ) (head : LoopHead) (body : Stmt) → written line (record head { mark = unrolled_mark chosen head.mark }) (unrolled chosen body) ≡ unrolled chosen (written line head body)
  written_unrolled line head body =
      ap (λ g. loop_with line head (first_of line head.variable.first) g (task_clauses (unrolled_clauses chosen head.mark.clauses)) (unrolled chosen body)) (grain_same line head.mark.clauses)
      ∙ ap (λ cs. loop_with line head (first_of line head.variable.first) (grain_of line head.mark.clauses) cs (unrolled chosen body)) (clauses_same head.mark.clauses)
      ∙ sym (loop_unrolled line head (first_of line head.variable.first) (grain_of line head.mark.clauses) (task_clauses head.mark.clauses) body)

  -- Statements

  abbrev IsSame : Stmt → Type 0
  IsSame s = written_out (unrolled chosen s) ≡ unrolled chosen (written_out s)

  each_same : {ss : List Stmt} → Each IsSame ss → map written_out (map (unrolled chosen) ss) ≡ map (unrolled chosen) (map written_out ss)
  each_same each_none = refl
  each_same (each_more {x} {xs} ok oks) = λ i. ok i ∷ each_same oks i

  any_same : {o : Option Stmt} → Any IsSame o → option_map written_out (option_map (unrolled chosen) o) ≡ option_map (unrolled chosen) (option_map written_out o)
  any_same any_none = refl
  any_same (any_some ok) = ap Some ok

  step : (s : Stmt) → StmtParts IsSame s.what → IsSame s
  step s (is_block body is oks) = subst (λ w. IsSame (record { what = w; line = s.line })) (sym is)
      (ap written_out (unrolled-block chosen s.line body) ∙ written-block s.line (map (unrolled chosen) body) ∙ ap (λ l. stmt_at s.line (stmts.Block l)) (each_same oks)
      ∙ sym (ap (unrolled chosen) (written-block s.line body) ∙ unrolled-block chosen s.line (map written_out body)))
  step s (is_empty is) = subst (λ w. IsSame (record { what = w; line = s.line })) (sym is)
      (ap written_out (unrolled-empty chosen s.line) ∙ written-empty s.line ∙ sym (ap (unrolled chosen) (written-empty s.line) ∙ unrolled-empty chosen s.line))
  step s (is_declare ls is) = subst (λ w. IsSame (record { what = w; line = s.line })) (sym is)
      (ap written_out (unrolled-declare chosen s.line ls) ∙ written-declare s.line ls ∙ sym (ap (unrolled chosen) (written-declare s.line ls) ∙ unrolled-declare chosen s.line ls))
  step s (is_assign t o e is) = subst (λ w. IsSame (record { what = w; line = s.line })) (sym is)
      (ap written_out (unrolled-assign chosen s.line t o e) ∙ written-assign s.line t o e ∙ sym (ap (unrolled chosen) (written-assign s.line t o e) ∙ unrolled-assign chosen s.line t o e))
  step s (is_call name es is) = subst (λ w. IsSame (record { what = w; line = s.line })) (sym is)
      (ap written_out (unrolled-call chosen s.line name es) ∙ written-call s.line name es ∙ sym (ap (unrolled chosen) (written-call s.line name es) ∙ unrolled-call chosen s.line name es))
  step s (is_print format es is) = subst (λ w. IsSame (record { what = w; line = s.line })) (sym is)
      (ap written_out (unrolled-print chosen s.line format es) ∙ written-print s.line format es ∙ sym (ap (unrolled chosen) (written-print s.line format es) ∙ unrolled-print chosen s.line format es))
  step s (is_if e t o is ok any) = subst (λ w. IsSame (record { what = w; line = s.line })) (sym is)
      (ap written_out (unrolled-if chosen s.line e t o) ∙ written-if s.line e (unrolled chosen t) (option_map (unrolled chosen) o) ∙ (λ i. stmt_at s.line (stmts.If e (ok i) (any_same any i)))
      ∙ sym (ap (unrolled chosen) (written-if s.line e t o) ∙ unrolled-if chosen s.line e (written_out t) (option_map written_out o)))
  step s (is_while e t is ok) = subst (λ w. IsSame (record { what = w; line = s.line })) (sym is)
      (ap written_out (unrolled-while chosen s.line e t) ∙ written-while s.line e (unrolled chosen t) ∙ ap (λ z. stmt_at s.line (stmts.While e z)) ok
      ∙ sym (ap (unrolled chosen) (written-while s.line e t) ∙ unrolled-while chosen s.line e (written_out t)))
  step s (is_for f e l t is first last ok) = subst (λ w. IsSame (record { what = w; line = s.line })) (sym is)
      (ap written_out (unrolled-for chosen s.line f e l t) ∙ written-for s.line (option_map (unrolled chosen) f) e (option_map (unrolled chosen) l) (unrolled chosen t)
      ∙ (λ i. stmt_at s.line (stmts.For (any_same first i) e (any_same last i) (ok i)))
      ∙ sym (ap (unrolled chosen) (written-for s.line f e l t) ∙ unrolled-for chosen s.line (option_map written_out f) e (option_map written_out l) (written_out t)))
  step s (is_return e is) = subst (λ w. IsSame (record { what = w; line = s.line })) (sym is)
      (ap written_out (unrolled-return chosen s.line e) ∙ written-return s.line e ∙ sym (ap (unrolled chosen) (written-return s.line e) ∙ unrolled-return chosen s.line e))
  step s (is_break is) = subst (λ w. IsSame (record { what = w; line = s.line })) (sym is)
      (ap written_out (unrolled-break chosen s.line) ∙ written-break s.line ∙ sym (ap (unrolled chosen) (written-break s.line) ∙ unrolled-break chosen s.line))
  step s (is_continue is) = subst (λ w. IsSame (record { what = w; line = s.line })) (sym is)
      (ap written_out (unrolled-continue chosen s.line) ∙ written-continue s.line ∙ sym (ap (unrolled chosen) (written-continue s.line) ∙ unrolled-continue chosen s.line))
  step s (is_task mark t is ok) = subst (λ w. IsSame (record { what = w; line = s.line })) (sym is)
      (ap written_out (unrolled-task chosen s.line mark t) ∙ written-task s.line (unrolled_mark chosen mark) (unrolled chosen t) ∙ ap (λ z. stmt_at s.line (stmts.Task (unrolled_mark chosen mark) z)) ok
      ∙ sym (ap (unrolled chosen) (written-task s.line mark t) ∙ unrolled-task chosen s.line mark (written_out t)))
  step s (is_task_loop head t is ok) = subst (λ w. IsSame (record { what = w; line = s.line })) (sym is)
      (ap written_out (unrolled-task_loop chosen s.line head t) ∙ written-task_loop s.line (record head { mark = unrolled_mark chosen head.mark }) (unrolled chosen t)
      ∙ ap (λ z. written s.line (record head { mark = unrolled_mark chosen head.mark }) z) ok
      ∙ written_unrolled s.line head (written_out t) ∙ sym (ap (unrolled chosen) (written-task_loop s.line head t)))
  step s (is_wait sections is) = subst (λ w. IsSame (record { what = w; line = s.line })) (sym is)
      (ap written_out (unrolled-wait chosen s.line sections) ∙ written-wait s.line (option_map (unrolled_sections chosen) sections)
      ∙ sym (ap (unrolled chosen) (written-wait s.line sections) ∙ unrolled-wait chosen s.line sections))
  step s (is_release clauses is) = subst (λ w. IsSame (record { what = w; line = s.line })) (sym is)
      (ap written_out (unrolled-release chosen s.line clauses) ∙ written-release s.line (unrolled_clauses chosen clauses)
      ∙ sym (ap (unrolled chosen) (written-release s.line clauses) ∙ unrolled-release chosen s.line clauses))

  statement_same : (s : Stmt) → IsSame s
  statement_same = stmt_induction IsSame step

  body_same : (ss : List Stmt) → map written_out (map (unrolled chosen) ss) ≡ map (unrolled chosen) (map written_out ss)
  body_same [] = refl
  body_same (s ∷ rest) = λ i. statement_same s i ∷ body_same rest i

  -- Programs.
  pub items_same : (all : List Item) → map item_written (items_unrolled chosen all) ≡ items_unrolled chosen (map item_written all)
  items_same [] = refl
  items_same (items.Global g ∷ rest) = ap (λ l. items.Global g ∷ l) (items_same rest)
  items_same (items.Function f ∷ rest) = λ i. items.Function (record f { mark = option_map (unrolled_mark chosen) f.mark; body = body_same f.body i }) ∷ items_same rest i
