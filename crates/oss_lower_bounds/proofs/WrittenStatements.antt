-- Each statement is written with the locals in scope with which it stands in the text.
use Rattle.std.proofs.Common.{◌≡◌, ◌∙◌, ℕ, ◌+◌, List, [], ◌∷◌, ◌++◌, length, map, Option, Some, None, option_map, sym, ap, refl, subst}
use Rattle.std.specs.Prelude.{◌-◌}
use Rattle.std.proofs.lemmas.List.{append-nil, append_assoc}
use Rattle.oss_syntax.specs.declared.tree.expr.Expr.{Expr}
use Rattle.oss_syntax.specs.declared.tree.program.Function.{Function}
use Rattle.oss_syntax.specs.declared.tree.program.Item.{Item}
use Rattle.oss_syntax.specs.declared.tree.program.Item.TheVariants as items
use Rattle.oss_syntax.specs.declared.tree.program.Local.{Local}
use Rattle.oss_syntax.specs.declared.tree.stmt.LoopHead.{LoopHead}
use Rattle.oss_syntax.specs.declared.tree.stmt.Stmt.{Stmt}
use Rattle.oss_syntax.specs.declared.tree.stmt.StmtKind.{StmtKind}
use Rattle.oss_syntax.specs.declared.tree.stmt.StmtKind.TheVariants as stmts
use Rattle.oss_grammar.specs.Places.{IsOneOf, StandsAmong, StandsIn, locals_behind, locals_behind_part}
use Rattle.oss_grammar.specs.Places.IsOneOf.{first_of_them, later_of_them}
use Rattle.oss_grammar.specs.Places.StandsAmong.{in_first, in_rest}
use Rattle.oss_grammar.specs.Places.StandsIn.{in_block, in_else, in_for_body, in_for_last, in_for_start, in_task_body, in_task_loop_body, in_then, in_while, itself}
use Rattle.oss_meaning.specs.Meaning.{main_number}
use Rattle.oss_meaning.specs.Names.{functions_of}
use Rattle.oss_code.specs.declared.instr.Instr.TheVariants as i
use Rattle.oss_lower_laws.specs.declared.lined.Lined.{Lined}
use Rattle.oss_lower_laws.specs.ExpressionCode.{expr_code, one}
use Rattle.oss_lower_laws.specs.Lowered.{body_code, body_place, function_code, function_codes, function_spot, head_code, program_code}
use Rattle.oss_lower_laws.specs.SectionCode.{created_code}
use Rattle.oss_lower_laws.specs.StatementCode.{Spot, StmtCode, behind, body_spot, codes_in_order, enclosed_code, enclosed_spot, end_code, end_length, for_codes, in_scope, last_spot, loop_body, loop_code, loop_last, loop_spot, other_spot, pads_code, part_code, part_scope, side_spot, stmt_code, test_code}
use Rattle.oss_lower_laws.proofs.FormLemmas.{code-block, code-for, code-if, code-task, code-while}
use Rattle.oss_lower_bounds.specs.Bounds.{IsWritten, StatementsAreWritten}
use Rattle.oss_lower_bounds.proofs.AgreeingScopes.{scopes_agree}

module _ (all : List Item) (visible : List Local) (t : Stmt) where
  abbrev Written : List Lined → Type 0
  Written = IsWritten all visible t

  -- with more behind it, and before it
  front : (code more : List Lined) → Written code → Written (code ++ more)
  front code more w =
      let here = (stmt_code all t).code w.spot in
      record {
        spot = w.spot;
        scope = w.scope;
        before = w.before;
        after = w.after ++ more;
        stands = ap (λ c. c ++ more) w.stands ∙ (append_assoc w.before (here ++ w.after) more ∙ ap (λ c. w.before ++ c) (append_assoc here w.after more));
      }

  back : (more code : List Lined) → Written code → Written (more ++ code)
  back more code w = record {
    spot = w.spot;
    scope = w.scope;
    before = more ++ w.before;
    after = w.after;
    stands = ap (λ c. more ++ c) w.stands ∙ sym (append_assoc more w.before ((stmt_code all t).code w.spot ++ w.after));
  }

  -- a statement of this form, which becomes this
  become : (s : Stmt) (k : StmtKind) (c : StmtCode) (spot : Spot) → s.what ≡ k → stmt_code all (record { what = k; line = s.line }) ≡ c → Written (c.code spot) → Written ((stmt_code all s).code spot)
  become s k c spot is code w =
      subst Written (sym (ap (λ x. (stmt_code all (record { what = x; line = s.line })).code spot) is ∙ ap (λ d. d.code spot) code)) w

  part_agrees : (o : Option Stmt) (scope : List Local) → part_scope (option_map (stmt_code all) o) scope ≡ locals_behind_part o scope
  part_agrees None scope = refl
  part_agrees (Some s) scope = scopes_agree all s scope

  -- The parts of a loop

  module _ (line : ℕ) (first : Option StmtCode) (test : Option Expr) (last : Option StmtCode) (body : StmtCode) (spot : Spot) where
    abbrev here : Spot
    here = loop_spot first spot

    abbrev bodies : List Lined
    bodies = loop_body all line test body here

    abbrev lasts : List Lined
    lasts = loop_last all line test last body here

    abbrev tests : List Lined
    tests = test_code all test line here.scope (1 + length bodies + length lasts)

    abbrev pads : List Lined
    pads = pads_code line (length here.scope) (4 + length tests + length bodies + length lasts) (1 + length tests + length bodies)

    abbrev again : List Lined
    again = one line 0 (i.Again (length tests + length bodies + length lasts))

    abbrev kept : List Lined
    kept = one line 0 (i.Keep (length spot.scope))

    in_loop : Written (bodies ++ (lasts ++ again)) → Written (for_codes all line first test last body spot)
    in_loop w =
        back (part_code first spot) (loop_code all line test last body here ++ kept)
        (front (loop_code all line test last body here) kept (back pads (tests ++ (bodies ++ (lasts ++ again))) (back tests (bodies ++ (lasts ++ again)) w)))

    of_body : Written bodies → Written (for_codes all line first test last body spot)
    of_body w = in_loop (front bodies (lasts ++ again) w)

    of_last : Written lasts → Written (for_codes all line first test last body spot)
    of_last w = in_loop (back bodies (lasts ++ again) (front lasts again w))

    of_first : Written (part_code first spot) → Written (for_codes all line first test last body spot)
    of_first w = front (part_code first spot) (loop_code all line test last body here ++ kept) w

  -- behind the tick of a statement
  ticked : (line : ℕ) (code : List Lined) → Written code → Written (one line 0 i.Tick ++ code)
  ticked line code w = back (one line 0 i.Tick) code w

  -- in a body of a function or of a task
  enclosed : (s : Spot) (line : ℕ) (code : List Lined) → Written code → Written (enclosed_code line s.result code)
  enclosed s line code w = back (end_code line s.result) (code ++ end_code line s.result) (front code (end_code line s.result) w)

  -- no task loop stands in a statement, or among statements
  abbrev NoLoops : List Local → Stmt → Type 0
  NoLoops locals s = (v : List Local) (u : Stmt) (head : LoopHead) (body : Stmt) → StandsIn v u locals s → u.what ≡ stmts.TaskLoop head body → ⊥

  abbrev NoLoopsAmong : List Local → List Stmt → Type 0
  NoLoopsAmong locals ss = (v : List Local) (u : Stmt) (head : LoopHead) (body : Stmt) → StandsAmong v u locals ss → u.what ≡ stmts.TaskLoop head body → ⊥

  mutual
    inside : {locals : List Local} {s : Stmt} → NoLoops locals s → StandsIn visible t locals s → (spot : Spot) → spot.scope ≡ locals → Written ((stmt_code all s).code spot)
    inside free itself spot e = record { spot = spot; scope = e; before = []; after = []; stands = sym (append-nil ((stmt_code all t).code spot)) }
    inside {s = s} free (in_block body is d) spot e =
        become s (stmts.Block body) _ spot is (code-block all s.line body)
        (front (codes_in_order (map (stmt_code all) body) spot) (one s.line 0 (i.Keep (length spot.scope))) (among (λ v u h b x. free v u h b (in_block body is x)) d spot e))
    inside {s = s} free (in_then test branch other is d) spot e =
        let at = behind 1 spot in
        let side = (stmt_code all branch).code (side_spot all s.line test at) in
        let others = part_code (option_map (stmt_code all) other) (other_spot all s.line test (stmt_code all branch) at) in
        let behind_it = one s.line 0 (i.Skip (length others)) ++ others in
        let jump = one s.line 1 (i.SkipUnless (length side + 1)) in
        let value = (expr_code all at.scope test).value s.line 0 in
        become s (stmts.If test branch other) _ spot is (code-if all s.line test branch other)
        (ticked s.line (value ++ (jump ++ (side ++ behind_it))) (back value (jump ++ (side ++ behind_it)) (back jump (side ++ behind_it)
        (front side behind_it (inside (λ v u h b x. free v u h b (in_then test branch other is x)) d (side_spot all s.line test at) e)))))
    inside {s = s} free (in_else test branch other is d) spot e =
        let at = behind 1 spot in
        let side = (stmt_code all branch).code (side_spot all s.line test at) in
        let others = (stmt_code all other).code (other_spot all s.line test (stmt_code all branch) at) in
        let skip = one s.line 0 (i.Skip (length others)) in
        let jump = one s.line 1 (i.SkipUnless (length side + 1)) in
        let value = (expr_code all at.scope test).value s.line 0 in
        become s (stmts.If test branch (Some other)) _ spot is (code-if all s.line test branch (Some other))
        (ticked s.line (value ++ (jump ++ (side ++ (skip ++ others)))) (back value (jump ++ (side ++ (skip ++ others))) (back jump (side ++ (skip ++ others)) (back side (skip ++ others)
        (back skip others (inside (λ v u h b x. free v u h b (in_else test branch other is x)) d (other_spot all s.line test (stmt_code all branch) at) e))))))
    inside {s = s} free (in_while test body is d) spot e =
        let at = behind 1 spot in
        become s (stmts.While test body) _ spot is (code-while all s.line test body)
        (ticked s.line (for_codes all s.line None (Some test) None (stmt_code all body) at) (of_body s.line None (Some test) None (stmt_code all body) at
        (inside (λ v u h b x. free v u h b (in_while test body is x)) d (body_spot all s.line (Some test) (loop_spot None at)) e)))
    inside {s = s} free (in_for_start start test last body is d) spot e =
        let at = behind 1 spot in
        let ends = option_map (stmt_code all) last in
        become s (stmts.For (Some start) test last body) _ spot is (code-for all s.line (Some start) test last body)
        (ticked s.line (for_codes all s.line (Some (stmt_code all start)) test ends (stmt_code all body) at) (of_first s.line (Some (stmt_code all start)) test ends (stmt_code all body) at
        (inside (λ v u h b x. free v u h b (in_for_start start test last body is x)) d at e)))
    inside {s = s} free (in_for_last start test last body is d) spot e =
        let at = behind 1 spot in
        let first = option_map (stmt_code all) start in
        become s (stmts.For start test (Some last) body) _ spot is (code-for all s.line start test (Some last) body)
        (ticked s.line (for_codes all s.line first test (Some (stmt_code all last)) (stmt_code all body) at) (of_last s.line first test (Some (stmt_code all last)) (stmt_code all body) at
        (inside (λ v u h b x. free v u h b (in_for_last start test last body is x)) d (last_spot all s.line test (stmt_code all body) (loop_spot first at))
        (part_agrees start spot.scope ∙ ap (locals_behind_part start) e))))
    inside {s = s} free (in_for_body start test last body is d) spot e =
        let at = behind 1 spot in
        let first = option_map (stmt_code all) start in
        let ends = option_map (stmt_code all) last in
        become s (stmts.For start test last body) _ spot is (code-for all s.line start test last body)
        (ticked s.line (for_codes all s.line first test ends (stmt_code all body) at) (of_body s.line first test ends (stmt_code all body) at
        (inside (λ v u h b x. free v u h b (in_for_body start test last body is x)) d (body_spot all s.line test (loop_spot first at))
        (part_agrees start spot.scope ∙ ap (locals_behind_part start) e))))
    inside {s = s} free (in_task_body mark body is d) spot e =
        let at = behind 1 spot in
        let code = (stmt_code all body).code (enclosed_spot at) in
        let whole = enclosed_code s.line at.result code in
        let skip = one s.line 0 (i.Skip (length whole)) in
        let created = created_code all at.scope (1 + end_length) mark.clauses s.line in
        become s (stmts.Task mark body) _ spot is (code-task all s.line mark body)
        (ticked s.line (created ++ (skip ++ whole)) (back created (skip ++ whole) (back skip whole (enclosed at s.line code
        (inside (λ v u h b x. free v u h b (in_task_body mark body is x)) d (enclosed_spot at) e)))))
    inside {locals = locals} {s = s} free (in_task_loop_body head body is d) spot e = absurd (free locals s head body itself is)

    among : {locals : List Local} {ss : List Stmt} → NoLoopsAmong locals ss → StandsAmong visible t locals ss → (spot : Spot) → spot.scope ≡ locals
        → Written (codes_in_order (map (stmt_code all) ss) spot)
    among free (in_first {s = s} {rest = rest} d) spot e =
        let c = stmt_code all s in
        front (c.code spot) (codes_in_order (map (stmt_code all) rest) (in_scope (c.scope spot.scope) (behind (length (c.code spot)) spot)))
        (inside (λ v u h b x. free v u h b (in_first x)) d spot e)
    among free (in_rest {s = s} {rest = rest} d) spot e =
        let c = stmt_code all s in
        let next = in_scope (c.scope spot.scope) (behind (length (c.code spot)) spot) in
        back (c.code spot) (codes_in_order (map (stmt_code all) rest) next)
        (among (λ v u h b x. free v u h b (in_rest x)) d next (scopes_agree all s spot.scope ∙ ap (locals_behind s) e))

  -- Functions

  in_functions : (f : Function) (xs : List Item) → IsOneOf (items.Function f) xs → Written (function_code all f) → Written (function_codes all (functions_of xs))
  in_functions f [] is w = elim is [ ]
  in_functions f (y ∷ xs) (first_of_them same) w =
      subst (λ z. Written (function_codes all (functions_of (z ∷ xs)))) (sym same) (front (function_code all f) (function_codes all (functions_of xs)) w)
  in_functions f (items.Global g ∷ xs) (later_of_them d) w = in_functions f xs d w
  in_functions f (items.Function g ∷ xs) (later_of_them d) w = back (function_code all g) (function_codes all (functions_of xs)) (in_functions f xs d w)

  in_program : Written (function_codes all (functions_of all)) → Written (program_code all)
  in_program w =
      let codes = function_codes all (functions_of all) in
      let skip = one 0 0 (i.Skip (body_place all (main_number all) - 1)) in
      back skip (one 0 0 (i.Push 0) ++ (one 0 1 i.Return ++ codes)) (back (one 0 0 (i.Push 0)) (one 0 1 i.Return ++ codes) (back (one 0 1 i.Return) codes w))

  in_function : (f : Function) → Written (body_code all f) → Written (function_code all f)
  in_function f w = back (head_code all f) (enclosed_code f.line f.result (body_code all f)) (enclosed (function_spot f) f.line (body_code all f) w)

pub statements_are_written : StatementsAreWritten
statements_are_written p f visible t free is =
    in_program p.items visible t (in_functions p.items visible t f p.items is.is_item (in_function p.items visible t f
    (among p.items visible t (λ v u h b x. free v u h b (record { is_item = is.is_item; stands = x })) is.stands (function_spot f) refl)))
