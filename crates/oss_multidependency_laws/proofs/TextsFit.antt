-- Statements of a text that break no static rule fit, their task loops written out: the grammar has declarations in blocks, in bodies and as the first part of a `for`
-- alone, and the rules count the arguments of each call.
use Rattle.std.proofs.Common.{◌≡◌, ◌∙◌, ℕ, Bool, true, false, List, [], ◌∷◌, length, map, Option, Some, None, option_map, refl, sym, ap, subst}
use Rattle.std.specs.Prelude.{◌==◌, is_some}
use Rattle.std.proofs.lemmas.List.{length-map}
use Rattle.oss_syntax.specs.declared.refusal.RefusedKind.TheVariants as refused
use Rattle.oss_syntax.specs.declared.token.Token.{Token}
use Rattle.oss_syntax.specs.declared.tree.expr.BinOp.{BinOp}
use Rattle.oss_syntax.specs.declared.tree.expr.Expr.{Expr}
use Rattle.oss_syntax.specs.declared.tree.program.Function.{Function}
use Rattle.oss_syntax.specs.declared.tree.program.Item.{Item}
use Rattle.oss_syntax.specs.declared.tree.program.Item.TheVariants as items
use Rattle.oss_syntax.specs.declared.tree.program.Kind.{Kind}
use Rattle.oss_syntax.specs.declared.tree.program.Local.{Local}
use Rattle.oss_syntax.specs.declared.tree.pragma.Section.{Section}
use Rattle.oss_syntax.specs.declared.tree.stmt.LoopHead.{LoopHead}
use Rattle.oss_syntax.specs.declared.tree.stmt.Stmt.{Stmt}
use Rattle.oss_syntax.specs.declared.tree.stmt.StmtKind.TheVariants as stmts
use Rattle.oss_grammar.specs.declared.kinds.Around.{Around}
use Rattle.oss_grammar.specs.declared.kinds.Wanted.TheVariants as wanted
use Rattle.oss_grammar.specs.Broken.{where_so}
use Rattle.oss_grammar.specs.ExpressionRules.{argument_rules, call_rules, findings, parameters_of, value_rules}
use Rattle.oss_grammar.specs.Formats.{conversions_of}
use Rattle.oss_grammar.specs.Kinds.{all_of, placed, unless, wanted_by}
use Rattle.oss_grammar.specs.Scopes.{function_named, item_named, loop_locals, meaning}
use Rattle.oss_grammar.specs.SectionRules.{clauses_rules, loop_clauses_rules, optional_rules}
use Rattle.oss_grammar.specs.SimpleStatements.{IsDeclaration, IsSimple, one_at}
use Rattle.oss_grammar.specs.SimpleStatements.IsDeclaration.{declaration}
use Rattle.oss_grammar.specs.SimpleStatements.IsSimple.{assigned, called, step_first, stepped}
use Rattle.oss_grammar.specs.Statements.{IsForFirst, IsItems, IsMaybeSimple, IsStmt}
use Rattle.oss_grammar.specs.Statements.IsForFirst.{declared_first, other_first}
use Rattle.oss_grammar.specs.Statements.IsItems.{declaration_item, no_item, statement_item}
use Rattle.oss_grammar.specs.Statements.IsMaybeSimple.{no_simple, some_simple}
use Rattle.oss_grammar.specs.Statements.IsStmt.{block, break_jump, continue_jump, empty, for_loop, if_alone, if_else, print, release, return_jump, simple, task, task_loop, task_wait, while_loop}
use Rattle.oss_grammar.specs.StaticRules.{declare_all, declare_one, format_rules, head_rules, in_a_loop, in_a_task, in_a_task_loop, is_wrong_return, last_name_rules, local_rules, name_rules, numbers_rules, or_anything, part_rules, returned_rules, rules_of, rules_of_all, scope_in, target_wanted, wait_rules}
use Rattle.oss_grammar.specs.TaskLoops.{first_of, grain_of, task_clauses, written_out}
use Rattle.oss_grammar.proofs.RuleEquations.{rules-assign, rules-block, rules-call, rules-declare, rules-for, rules-if, rules-print, rules-release, rules-return, rules-task, rules-task-loop, rules-wait, rules-while}
use Rattle.oss_meaning.specs.Names.{item_found}
use Rattle.oss_multidependency_laws.specs.Fitting.{Shape, all_fit, clauses_fit, fits, locals_fit, optional_fits, part_fits, part_stands, shape_of, shapes_fit, stands, takes, waits_fit}
use Rattle.oss_multidependency_laws.proofs.RulesFit.{and_both, arguments_fit, call_fits, clauses_fits, expr_fits, fits-number, grain_fits, loop_fits, nil_left, nil_right, optional_fit, placed_none, sections_fits, unless_none, value_fits}
use Rattle.oss_multidependency_laws.proofs.UnrolledForms.{shape-assign, shape-block, shape-break, shape-call, shape-continue, shape-declare, shape-empty, shape-for, shape-if, shape-print, shape-release, shape-return, shape-task, shape-wait, shape-while}
use Rattle.oss_multidependency_laws.proofs.WrittenShapes.{StandsWritten, as_shape, loop_stands, stands_fits, written-assign, written-block, written-break, written-call, written-continue, written-declare, written-empty, written-for, written-if, written-print, written-release, written-return, written-task, written-task_loop, written-wait, written-while}

module _ (all other : List Item)
    (same : (name : List ℕ) (f : Function) → item_named all name ≡ Some (items.Function f) → (n : ℕ) → (n == length f.params) ≡ true → takes other (item_found other name) n ≡ true) where
  -- no rule is broken
  abbrev Obeys : Stmt → Around → List Local → Type 0
  Obeys s a locals = (rules_of s all a locals).broken ≡ []

  abbrev shape_written : Stmt → Shape
  shape_written s = shape_of other (written_out s)

  -- Statements without others in them

  returned_fit : (k : Kind) (locals : List Local) (o : Option Expr) → returned_rules all locals k o ≡ [] → optional_fits other o ≡ true
  returned_fit k locals None h = refl
  returned_fit k locals (Some e) h = value_fits all other same locals (wanted_by k) e h

  declared_fit : (start : ℕ) (ls locals : List Local) → (declare_all all start ls locals).broken ≡ [] → locals_fit other ls ≡ true
  declared_fit start [] locals h = refl
  declared_fit start (l ∷ rest) locals h =
      let here = nil_left (local_rules all start l locals) (declare_all all start rest (declare_one all start l locals).locals).broken h in
      and_both (optional_fits other l.first) (locals_fit other rest) (returned_fit l.kind locals l.first (nil_right (where_so _ refused.TooLarge l.line) _ (nil_right (where_so _ refused.DuplicateName l.line) _ here)))
      (declared_fit start rest (declare_one all start l locals).locals (nil_right (local_rules all start l locals) (declare_all all start rest (declare_one all start l locals).locals).broken h))

  numbers_fit : (locals : List Local) (es : List Expr) → numbers_rules all locals es ≡ [] → all_fit other es ≡ true
  numbers_fit locals [] h = refl
  numbers_fit locals (e ∷ rest) h =
      and_both (fits other e) (all_fit other rest) (value_fits all other same locals wanted.Number e (nil_left (value_rules all locals wanted.Number e) (numbers_rules all locals rest) h))
      (numbers_fit locals rest (nil_right (value_rules all locals wanted.Number e) (numbers_rules all locals rest) h))

  assign_stands : (a : Around) (locals : List Local) (t : Expr) (o : Option BinOp) (e : Expr) (line : ℕ) → Obeys (record { what = stmts.Assign t o e; line = line }) a locals
      → StandsWritten other (record { what = stmts.Assign t o e; line = line })
  assign_stands a locals t o e line h =
      let w = target_wanted o (findings all locals t).kind (findings all locals t).object in
      let none = sym (ap (λ j. j.broken) (rules-assign (record { what = stmts.Assign t o e; line = line }) all a locals t o e refl)) ∙ h in
      ap (λ s. stands (shape_of other s)) (written-assign line t o e)
      ∙ as_shape other (record { what = stmts.Assign t o e; line = line }) _ (shape-assign other line t o e)
      (and_both (fits other t) (fits other e)
      (expr_fits all other same t locals (unless_none (is_some w) (findings all locals t) (nil_left (all_of (unless (is_some w) (findings all locals t))) (all_of (placed (or_anything w) (findings all locals e))) none)))
      (expr_fits all other same e locals (placed_none (or_anything w) (findings all locals e) (nil_right (all_of (unless (is_some w) (findings all locals t))) (all_of (placed (or_anything w) (findings all locals e))) none))))

  simple_stands : {ts : List Token} {s : Stmt} (a : Around) (locals : List Local) → IsSimple ts s → Obeys s a locals → StandsWritten other s
  simple_stands a locals (assigned {target = t} {value = e} front mark operator back split is d f) h = assign_stands a locals t operator e t.line h
  simple_stands a locals (stepped {target = t} front mark operator split is d) h = assign_stands a locals t (Some operator) (one_at mark.line) t.line h
  simple_stands a locals (step_first {target = t} mark operator back split is d) h = assign_stands a locals t (Some operator) (one_at mark.line) mark.line h
  simple_stands a locals (called {values = es} t opened word inner closed split is1 is2 is3 d) h =
      let front = call_rules (meaning all locals word) (function_named all word) t.line true (length (map (findings all locals) es)) in
      let back = argument_rules (parameters_of (meaning all locals word) (function_named all word)) (map (findings all locals) es) in
      let none = sym (ap (λ j. j.broken) (rules-call (record { what = stmts.Call word es; line = t.line }) all a locals word es refl)) ∙ h in
      ap (λ s. stands (shape_of other s)) (written-call t.line word es)
      ∙ as_shape other (record { what = stmts.Call word es; line = t.line }) _ (shape-call other t.line word es)
      (and_both (all_fit other es) (takes other (item_found other word) (length es)) (arguments_fit all other same locals (parameters_of (meaning all locals word) (function_named all word)) es (nil_right front back none))
      (subst (λ n. takes other (item_found other word) n ≡ true) (length-map es (findings all locals)) (call_fits all other same locals word t.line true (length (map (findings all locals) es)) (nil_left front back none))))

  declaration_fits : {ts : List Token} {s : Stmt} (a : Around) (locals : List Local) → IsDeclaration ts s → Obeys s a locals → (shape_written s).fits ≡ true
  declaration_fits {s = s} a locals (declaration {locals = ls} front back split is d) h =
      ap (λ z. (shape_of other z).fits) (written-declare s.line ls) ∙ ap (λ (z : Shape). z.fits) (shape-declare other s.line ls)
      ∙ declared_fit a.start ls locals (sym (ap (λ j. j.broken) (rules-declare s all a locals ls refl)) ∙ h)

  -- the parts of a `for`
  last_stands : {ts : List Token} {o : Option Stmt} (a : Around) (locals : List Local) → IsMaybeSimple ts o → (part_rules (option_map rules_of o) all a locals).broken ≡ []
      → part_stands (option_map (shape_of other) (option_map written_out o)) ≡ true
  last_stands a locals (no_simple split) h = refl
  last_stands a locals (some_simple d) h = simple_stands a locals d h

  first_fits : {ts : List Token} {o : Option Stmt} (a : Around) (locals : List Local) → IsForFirst ts o → (part_rules (option_map rules_of o) all a locals).broken ≡ []
      → part_fits (option_map (shape_of other) (option_map written_out o)) ≡ true
  first_fits a locals (declared_first d) h = declaration_fits a locals d h
  first_fits a locals (other_first (no_simple split)) h = refl
  first_fits a locals (other_first (some_simple {s = s} d)) h = stands_fits other (shape_written s) (simple_stands a locals d h)

  waits_fits : (locals : List Local) (o : Option (List Section)) → wait_rules all locals o ≡ [] → waits_fit other o ≡ true
  waits_fits locals None h = refl
  waits_fits locals (Some sections) h = sections_fits all other same locals false 0 sections h

  -- what the head of a task loop has
  record HeadFits (line : ℕ) (head : LoopHead) : Type 0 where
    clauses : clauses_fit other (task_clauses head.mark.clauses) ≡ true
    first : fits other (first_of line head.variable.first) ≡ true
    end : fits other head.end ≡ true
    grain : fits other (grain_of line head.mark.clauses) ≡ true

  beginning_fits : (locals : List Local) (line : ℕ) (o : Option Expr) → optional_rules all locals o ≡ [] → fits other (first_of line o) ≡ true
  beginning_fits locals line None h = fits-number other line 0 false
  beginning_fits locals line (Some e) h = value_fits all other same locals wanted.Number e h

  head_fits : (locals : List Local) (line : ℕ) (head : LoopHead) → head_rules all locals head ≡ [] → HeadFits line head
  head_fits locals line head h =
      let clauses = loop_clauses_rules all locals (loop_locals head locals) 0 head.mark.clauses in
      let own = nil_left clauses _ h in
      let behind = nil_right (where_so _ refused.TooLarge head.variable.line) _ (nil_right clauses _ h) in
      let later = nil_right (name_rules head.variable.name head.tested head.stepped) _ (nil_right (optional_rules all locals head.variable.first) _ behind) in record {
        clauses = loop_fits all other same locals (loop_locals head locals) 0 head.mark.clauses own;
        first = beginning_fits locals line head.variable.first (nil_left (optional_rules all locals head.variable.first) _ behind);
        end = value_fits all other same locals wanted.Number head.end (nil_left (value_rules all locals wanted.Number head.end) (last_name_rules head.variable.name head.tested head.stepped) later);
        grain = grain_fits all other same locals (loop_locals head locals) line 0 head.mark.clauses own;
      }

  -- Statements

  mutual
    pub stmt_stands : {o : Bool} {ts : List Token} {s : Stmt} (a : Around) (locals : List Local) → IsStmt o ts s → Obeys s a locals → StandsWritten other s
    stmt_stands {s = s} a locals (block {body = body} opened inner closed split o c d) h =
        ap (λ z. stands (shape_of other z)) (written-block s.line body)
        ∙ as_shape other (record { what = stmts.Block (map written_out body); line = s.line }) _ (shape-block other s.line (map written_out body))
        (items_stand (scope_in a locals) locals d (sym (ap (λ j. j.broken) (rules-block s all a locals body refl)) ∙ h))
    stmt_stands {s = s} a locals (empty mark split is) h =
        ap (λ z. stands (shape_of other z)) (written-empty s.line) ∙ as_shape other (record { what = stmts.Empty; line = s.line }) _ (shape-empty other s.line) refl
    stmt_stands a locals (simple front mark split is d) h = simple_stands a locals d h
    stmt_stands {s = s} a locals (if_alone {test = e} {s = t} tok opened inner closed back split is1 is2 is3 d f) h =
        let none = sym (ap (λ j. j.broken) (rules-if s all a locals e t None refl)) ∙ h in
        let sides = nil_right (value_rules all locals wanted.Number e) _ none in
        ap (λ z. stands (shape_of other z)) (written-if s.line e t None)
        ∙ as_shape other (record { what = stmts.If e (written_out t) None; line = s.line }) _ (shape-if other s.line e (written_out t) None)
        (and_both (fits other e) _ (value_fits all other same locals wanted.Number e (nil_left (value_rules all locals wanted.Number e) _ none))
        (and_both (stands (shape_written t)) true (stmt_stands (scope_in a locals) locals f (nil_left (rules_of t all (scope_in a locals) locals).broken _ sides)) refl))
    stmt_stands {s = s} a locals (if_else {test = e} {s = t} {other = r} tok opened inner closed front mark back split is1 is2 is3 is4 d f g) h =
        let none = sym (ap (λ j. j.broken) (rules-if s all a locals e t (Some r) refl)) ∙ h in
        let sides = nil_right (value_rules all locals wanted.Number e) _ none in
        ap (λ z. stands (shape_of other z)) (written-if s.line e t (Some r))
        ∙ as_shape other (record { what = stmts.If e (written_out t) (Some (written_out r)); line = s.line }) _ (shape-if other s.line e (written_out t) (Some (written_out r)))
        (and_both (fits other e) _ (value_fits all other same locals wanted.Number e (nil_left (value_rules all locals wanted.Number e) _ none))
        (and_both (stands (shape_written t)) (stands (shape_written r)) (stmt_stands (scope_in a locals) locals f (nil_left (rules_of t all (scope_in a locals) locals).broken _ sides))
        (stmt_stands (scope_in a locals) locals g (nil_right (rules_of t all (scope_in a locals) locals).broken _ sides))))
    stmt_stands {s = s} a locals (while_loop {test = e} {s = t} tok opened inner closed back split is1 is2 is3 d f) h =
        let none = sym (ap (λ j. j.broken) (rules-while s all a locals e t refl)) ∙ h in
        ap (λ z. stands (shape_of other z)) (written-while s.line e t)
        ∙ as_shape other (record { what = stmts.While e (written_out t); line = s.line }) _ (shape-while other s.line e (written_out t))
        (and_both (fits other e) (stands (shape_written t)) (value_fits all other same locals wanted.Number e (nil_left (value_rules all locals wanted.Number e) _ none))
        (stmt_stands (scope_in (in_a_loop a) locals) locals f (nil_right (value_rules all locals wanted.Number e) _ none)))
    stmt_stands {s = s} a locals (for_loop {first = first} {test = test} {last = last} {s = t} tok opened start mark middle other_mark end closed back split is1 is2 is3 is4 is5 d e f g) h =
        let inside = scope_in a locals in
        let one = part_rules (option_map rules_of first) all inside locals in
        let more = one.locals in
        let turn = part_rules (option_map rules_of last) all (scope_in inside more) more in
        let none = sym (ap (λ j. j.broken) (rules-for s all a locals first test last t refl)) ∙ h in
        let behind_first = nil_right one.broken _ none in
        let behind_test = nil_right (optional_rules all more test) _ behind_first in
        ap (λ z. stands (shape_of other z)) (written-for s.line first test last t)
        ∙ as_shape other (record { what = stmts.For (option_map written_out first) test (option_map written_out last) (written_out t); line = s.line }) _
        (shape-for other s.line (option_map written_out first) test (option_map written_out last) (written_out t))
        (and_both (part_fits (option_map (shape_of other) (option_map written_out first))) _ (first_fits inside locals d (nil_left one.broken _ none))
        (and_both (optional_fits other test) _ (optional_fit all other same more test (nil_left (optional_rules all more test) _ behind_first))
        (and_both (part_stands (option_map (shape_of other) (option_map written_out last))) (stands (shape_written t)) (last_stands (scope_in inside more) more f (nil_left turn.broken _ behind_test))
        (stmt_stands (scope_in (in_a_loop inside) more) more g (nil_right turn.broken _ behind_test)))))
    stmt_stands {s = s} a locals (return_jump {value = o} t inner mark split is1 is2 d) h =
        let none = sym (ap (λ j. j.broken) (rules-return s all a locals o refl)) ∙ h in
        ap (λ z. stands (shape_of other z)) (written-return s.line o) ∙ as_shape other (record { what = stmts.Return o; line = s.line }) _ (shape-return other s.line o)
        (returned_fit a.result locals o (nil_right (where_so a.in_task refused.BadJump s.line) _ (nil_right (where_so (is_wrong_return a.result o) refused.WrongKind s.line) _ none)))
    stmt_stands {s = s} a locals (break_jump t mark split is1 is2) h =
        ap (λ z. stands (shape_of other z)) (written-break s.line) ∙ as_shape other (record { what = stmts.Break; line = s.line }) _ (shape-break other s.line) refl
    stmt_stands {s = s} a locals (continue_jump t mark split is1 is2) h =
        ap (λ z. stands (shape_of other z)) (written-continue s.line) ∙ as_shape other (record { what = stmts.Continue; line = s.line }) _ (shape-continue other s.line) refl
    stmt_stands {s = s} a locals (print {values = values} t opened string bytes inner closed mark split is1 is2 is3 is4 is5 d) h =
        let none = sym (ap (λ j. j.broken) (rules-print s all a locals bytes values refl)) ∙ h in
        ap (λ z. stands (shape_of other z)) (written-print s.line bytes values) ∙ as_shape other (record { what = stmts.Print bytes values; line = s.line }) _ (shape-print other s.line bytes values)
        (numbers_fit locals values (nil_right (format_rules (conversions_of bytes) (length values) s.line) _ none))
    stmt_stands {s = s} a locals (task {mark = mark} {s = t} front back split d f) h =
        let none = sym (ap (λ j. j.broken) (rules-task s all a locals mark t refl)) ∙ h in
        ap (λ z. stands (shape_of other z)) (written-task s.line mark t)
        ∙ as_shape other (record { what = stmts.Task mark (written_out t); line = s.line }) _ (shape-task other s.line mark (written_out t))
        (and_both (clauses_fit other mark.clauses) (stands (shape_written t)) (clauses_fits all other same locals 0 mark.clauses (nil_left (clauses_rules all locals 0 mark.clauses) _ none))
        (stmt_stands (scope_in (in_a_task a) locals) locals f (nil_right (clauses_rules all locals 0 mark.clauses) _ none)))
    stmt_stands {s = s} a locals (task_loop {head = head} {s = t} front middle back split d head_is f) h =
        let inside : List Local = loop_locals head locals in
        let none = sym (ap (λ j. j.broken) (rules-task-loop s all a locals head t refl)) ∙ h in
        let fit = head_fits locals s.line head (nil_left (head_rules all locals head) _ none) in
        ap (λ z. stands (shape_of other z)) (written-task_loop s.line head t)
        ∙ loop_stands other s.line head (written_out t) (stmt_stands (scope_in (in_a_task_loop a) inside) inside f (nil_right (head_rules all locals head) _ none)) fit.clauses fit.first fit.end fit.grain
    stmt_stands {s = s} a locals (task_wait {sections = sections} d) h =
        ap (λ z. stands (shape_of other z)) (written-wait s.line sections) ∙ as_shape other (record { what = stmts.TaskWait sections; line = s.line }) _ (shape-wait other s.line sections)
        (waits_fits locals sections (sym (ap (λ j. j.broken) (rules-wait s all a locals sections refl)) ∙ h))
    stmt_stands {s = s} a locals (release {clauses = clauses} d) h =
        ap (λ z. stands (shape_of other z)) (written-release s.line clauses) ∙ as_shape other (record { what = stmts.Release clauses; line = s.line }) _ (shape-release other s.line clauses)
        (clauses_fits all other same locals 0 clauses (sym (ap (λ j. j.broken) (rules-release s all a locals clauses refl)) ∙ h))

    pub items_stand : {ts : List Token} {body : List Stmt} (a : Around) (locals : List Local) → IsItems ts body → (rules_of_all body all a locals).broken ≡ [] → shapes_fit (map (shape_of other) (map written_out body)) ≡ true
    items_stand a locals (no_item split) h = refl
    items_stand a locals (declaration_item {s = s} {more = more} front mark back split is d rest) h =
        and_both (shape_written s).fits _ (declaration_fits a locals d (nil_left (rules_of s all a locals).broken _ h)) (items_stand a (rules_of s all a locals).locals rest (nil_right (rules_of s all a locals).broken _ h))
    items_stand a locals (statement_item {s = s} {more = more} front back split d rest) h =
        and_both (shape_written s).fits _ (stands_fits other (shape_written s) (stmt_stands a locals d (nil_left (rules_of s all a locals).broken _ h)))
        (items_stand a (rules_of s all a locals).locals rest (nil_right (rules_of s all a locals).broken _ h))
