-- The rules of statements, functions and programs rise with the lines of their tokens.
use Rattle.std.proofs.Common.{ℕ, ◌≤◌, ◌==◌, ◌&&◌, Bool, not, List, [], ◌∷◌, ◌++◌, length, refl, Option, Some, None, option_map, arith}
use Rattle.std.specs.Prelude.{nat_le}
use Rattle.std.specs.Str.{bytes_eq}
use Rattle.oss_syntax.specs.declared.refusal.RefusedKind.TheVariants as refused
use Rattle.oss_syntax.specs.declared.token.Token.{Token}
use Rattle.oss_syntax.specs.declared.tree.expr.Expr.{Expr}
use Rattle.oss_syntax.specs.declared.tree.pragma.Directive.TheVariants as directive
use Rattle.oss_syntax.specs.declared.tree.pragma.TaskMark.{TaskMark}
use Rattle.oss_syntax.specs.declared.tree.program.Item.{Item}
use Rattle.oss_syntax.specs.declared.tree.program.Local.{Local}
use Rattle.oss_syntax.specs.declared.tree.stmt.LoopHead.{LoopHead}
use Rattle.oss_syntax.specs.declared.tree.stmt.NameUse.{NameUse}
use Rattle.oss_syntax.specs.declared.tree.stmt.Stmt.{Stmt}
use Rattle.oss_grammar.specs.declared.kinds.Around.{Around}
use Rattle.oss_grammar.specs.declared.kinds.Wanted.TheVariants as wanted
use Rattle.oss_grammar.specs.Broken.{where_so}
use Rattle.oss_grammar.specs.Formats.{conversions_of}
use Rattle.oss_grammar.specs.Kinds.{wanted_by}
use Rattle.oss_grammar.proofs.ScopedPlaces.{locals_behind_part}
use Rattle.oss_grammar.specs.Pragmas.{IsPragma}
use Rattle.oss_grammar.specs.Scopes.{loop_locals}
use Rattle.oss_grammar.specs.SectionRules.{optional_rules}
use Rattle.oss_grammar.specs.Statements.{IsMaybeWhole, IsMaybeSimple, IsForFirst, IsLoopVariable, IsTested, IsStepped, IsLoopHead, IsPrinted, IsStmt, IsItems}
use Rattle.oss_grammar.specs.Statements.IsMaybeWhole.{no_expression, some_expression}
use Rattle.oss_grammar.specs.Statements.IsMaybeSimple.{no_simple, some_simple}
use Rattle.oss_grammar.specs.Statements.IsForFirst.{declared_first, other_first}
use Rattle.oss_grammar.specs.Statements.IsLoopVariable.{loop_variable}
use Rattle.oss_grammar.specs.Statements.IsTested.{tested}
use Rattle.oss_grammar.specs.Statements.IsStepped.{stepped}
use Rattle.oss_grammar.specs.Statements.IsLoopHead.{loop_head}
use Rattle.oss_grammar.specs.Statements.IsPrinted.{nothing_printed, values_printed}
use Rattle.oss_grammar.specs.Statements.IsStmt.{block, empty, simple, if_alone, if_else, while_loop, for_loop, return_jump, break_jump, continue_jump, print, task, task_loop, task_wait, release}
use Rattle.oss_grammar.specs.Statements.IsItems.{no_item, declaration_item, statement_item}
use Rattle.oss_grammar.specs.StaticRules.{format_rules, head_rules, in_a_loop, in_a_task, in_a_task_loop, is_wrong_return, may_break, may_continue, numbers_rules, part_rules, returned_rules, rules_of, rules_of_all, scope_in}
use Rattle.oss_grammar.proofs.ClauseLines.{pragma_lies}
use Rattle.oss_grammar.proofs.ExpressionLines.{between, value_lies}
use Rattle.oss_grammar.proofs.LineSpans.{AllOn, Span, Within, behind_first, cut, first_is, first_on, on_one, on_then, on_where, skip, span_of, span_order, where_then, where_within, within_both, within_higher, within_lower, within_of}
use Rattle.oss_grammar.proofs.LineSpans.Within.{within_end}
use Rattle.oss_grammar.proofs.PlaceLemmas.{for_broken}
use Rattle.oss_grammar.proofs.RuleEquations.{rules-block, rules-empty, rules-print, rules-if, rules-while, rules-return, rules-break, rules-continue, rules-task, rules-task-loop, rules-wait, rules-release}
use Rattle.oss_grammar.proofs.StatementLines.{within_as, simple_lies, declaration_lies, numbers_lie}

on_format : (o : Option ℕ) (n line : ℕ) → AllOn line (format_rules o n line)
on_format None n line = on_one refused.WrongKind line
on_format (Some m) n line = on_where (not (m == n)) refused.WrongCount line

module _ (all : List Item) where
  maybe_lies : {P : ℕ → Type 0} {ts : List Token} {o : Option Expr} {high low : ℕ} (locals : List Local) → IsMaybeWhole ts o → Span P high low ts → Within P high low (optional_rules all locals o)
  maybe_lies locals (no_expression split) w = within_end (span_order w)
  maybe_lies locals (some_expression d) w = value_lies all locals wanted.Number d w

  returned_lies : {P : ℕ → Type 0} {ts : List Token} {o : Option Expr} {high low : ℕ} (a : Around) (locals : List Local) → IsMaybeWhole ts o → Span P high low ts → Within P high low (returned_rules all locals a.result o)
  returned_lies a locals (no_expression split) w = within_end (span_order w)
  returned_lies a locals (some_expression d) w = value_lies all locals (wanted_by a.result) d w

  maybe_simple : {P : ℕ → Type 0} {ts : List Token} {o : Option Stmt} {high low : ℕ} (a : Around) (locals : List Local) → IsMaybeSimple ts o → Span P high low ts → Within P high low (part_rules (option_map rules_of o) all a locals).broken
  maybe_simple a locals (no_simple split) w = within_end (span_order w)
  maybe_simple a locals (some_simple d) w = simple_lies all a locals d w

  first_lies : {P : ℕ → Type 0} {ts : List Token} {o : Option Stmt} {high low : ℕ} (a : Around) (locals : List Local) → IsForFirst ts o → Span P high low ts → Within P high low (part_rules (option_map rules_of o) all a locals).broken
  first_lies a locals (declared_first d) w = declaration_lies all a locals d w
  first_lies a locals (other_first d) w = maybe_simple a locals d w

  printed_lies : {P : ℕ → Type 0} {ts : List Token} {values : List Expr} {high low : ℕ} (locals : List Local) → IsPrinted ts values → Span P high low ts → Within P high low (numbers_rules all locals values)
  printed_lies locals (nothing_printed split) w = within_end (span_order w)
  printed_lies locals (values_printed comma back split is d) w = numbers_lie all locals d (skip (span_of split w))

  -- the head of a task loop
  variable_from : {P : ℕ → Type 0} {ts : List Token} {word : List ℕ} {line high low : ℕ} → IsLoopVariable ts word line → Span P high low ts → low ≤ line
  variable_from (loop_variable t opened kind named word split is1 is2 is3 is4) w = first_on (skip (skip (skip (span_of split w))))

  variable_to : {P : ℕ → Type 0} {ts : List Token} {word : List ℕ} {line high low : ℕ} → IsLoopVariable ts word line → Span P high low ts → line ≤ high
  variable_to (loop_variable t opened kind named word split is1 is2 is3 is4) w = span_order (behind_first (skip (skip (skip (span_of split w)))))

  variable_is : {P : ℕ → Type 0} {ts : List Token} {word : List ℕ} {line high low : ℕ} → IsLoopVariable ts word line → Span P high low ts → P line
  variable_is (loop_variable t opened kind named word split is1 is2 is3 is4) w = first_is (skip (skip (skip (span_of split w))))

  tested_lies : {P : ℕ → Type 0} {ts : List Token} {name : NameUse} {high low : ℕ} (b : Bool) → IsTested ts name → Span P high low ts → Within P high low (where_so b refused.WrongKind name.line)
  tested_lies b (tested t less word split is1 is2) w = (let v = span_of split w in where_within b refused.WrongKind (first_on v) (span_order (behind_first v)) (first_is v))

  stepped_lies : {P : ℕ → Type 0} {ts : List Token} {name : NameUse} {high low : ℕ} (b : Bool) → IsStepped ts name → Span P high low ts → Within P high low (where_so b refused.WrongKind name.line)
  stepped_lies b (stepped t twice word split is1 is2) w = (let v = span_of split w in where_within b refused.WrongKind (first_on v) (span_order (behind_first v)) (first_is v))

  head_lies : {P : ℕ → Type 0} {ts us : List Token} {mark : TaskMark} {head : LoopHead} {high middle low : ℕ} (locals : List Local) → IsPragma ts (directive.TaskLoop mark) → IsLoopHead mark us head
      → Span P middle low ts → Span P high middle us → Within P high low (head_rules all locals head)
  head_lies {head = head} locals p (loop_head front set start ended test limit other step closed split v is1 d is2 t e is3 s is4) w u =
      (let a = cut front (set ∷ (start ++ (ended ∷ (test ++ (limit ++ (other ∷ (step ++ (closed ∷ [])))))))) (span_of split u) in
      let b = cut start (ended ∷ (test ++ (limit ++ (other ∷ (step ++ (closed ∷ [])))))) (skip a.behind) in
      let c = cut test (limit ++ (other ∷ (step ++ (closed ∷ [])))) (skip b.behind) in
      let l = cut limit (other ∷ (step ++ (closed ∷ []))) c.behind in
      let i = between step closed [] (skip l.behind) in
      within_both (pragma_lies all locals (loop_locals head locals) p w)
      (where_then (nat_le 251 (length locals)) refused.TooLarge (variable_from v a.before) (variable_is v a.before)
      (within_lower (variable_to v a.before)
      (within_both (value_lies all locals wanted.Number d b.before)
      (within_both (tested_lies (not (bytes_eq head.tested.name head.variable.name)) t c.before)
      (within_both (value_lies all locals wanted.Number e l.before)
      (within_higher i.ends (stepped_lies (bytes_eq head.tested.name head.variable.name && not (bytes_eq head.stepped.name head.variable.name)) s i.span))))))))

  mutual
    pub stmt_lies : {P : ℕ → Type 0} {o : Bool} {ts : List Token} {s : Stmt} {high low : ℕ} (a : Around) (locals : List Local) → IsStmt o ts s → Span P high low ts → Within P high low (rules_of s all a locals).broken
    stmt_lies {s = s} a locals (block {body = body} opened inner closed split o c d) w =
        (let i = between inner closed [] (skip (span_of split w)) in
        within_as (rules-block s all a locals body refl) (within_higher i.ends (items_lie (scope_in a locals) locals d i.span)))
    stmt_lies {s = s} a locals (empty mark split is) w = within_as (rules-empty s all a locals refl) (within_end (span_order w))
    stmt_lies {s = s} a locals (simple front mark split is d) w =
        (let i = between front mark [] (span_of split w) in within_higher i.ends (simple_lies all a locals d i.span))
    stmt_lies {s = s} a locals (if_alone {test = e} {s = t} tok opened inner closed back split is1 is2 is3 d f) w =
        (let q = cut inner (closed ∷ back) (skip (skip (span_of split w))) in
        within_as (rules-if s all a locals e t None refl)
        (within_both (value_lies all locals wanted.Number d q.before) (within_both (stmt_lies (scope_in a locals) locals f (skip q.behind)) (within_end (omega arith)))))
    stmt_lies {s = s} a locals (if_else {test = e} {s = t} {other = r} tok opened inner closed front mark back split is1 is2 is3 is4 d f g) w =
        (let q = cut inner (closed ∷ (front ++ (mark ∷ back))) (skip (skip (span_of split w))) in
        let h = cut front (mark ∷ back) (skip q.behind) in
        within_as (rules-if s all a locals e t (Some r) refl)
        (within_both (value_lies all locals wanted.Number d q.before) (within_both (stmt_lies (scope_in a locals) locals f h.before) (stmt_lies (scope_in a locals) locals g (skip h.behind)))))
    stmt_lies {s = s} a locals (while_loop {test = e} {s = t} tok opened inner closed back split is1 is2 is3 d f) w =
        (let q = cut inner (closed ∷ back) (skip (skip (span_of split w))) in
        within_as (rules-while s all a locals e t refl) (within_both (value_lies all locals wanted.Number d q.before) (stmt_lies (scope_in (in_a_loop a) locals) locals f (skip q.behind))))
    stmt_lies {s = s} a locals (for_loop {first = first} {test = test} {last = last} {s = t} tok opened start mark middle other end closed back split is1 is2 is3 is4 is5 d e f g) w =
        (let q = cut start (mark ∷ (middle ++ (other ∷ (end ++ (closed ∷ back))))) (skip (skip (span_of split w))) in
        let h = cut middle (other ∷ (end ++ (closed ∷ back))) (skip q.behind) in
        let i = cut end (closed ∷ back) (skip h.behind) in
        let more : List Local = locals_behind_part (length locals) first locals in
        within_of (for_broken all a locals s first test last t refl)
        (within_both (first_lies (scope_in a locals) locals d q.before)
        (within_both (maybe_lies more e h.before)
        (within_both (maybe_simple (scope_in a more) more f i.before)
        (stmt_lies (scope_in (in_a_loop a) more) more g (skip i.behind))))))
    stmt_lies {s = s} a locals (return_jump {value = o} t inner mark split is1 is2 d) w =
        (let v = span_of split w in
        let i = between inner mark [] (behind_first v) in
        within_as (rules-return s all a locals o refl)
        (where_then (is_wrong_return a.result o) refused.WrongKind (first_on v) (first_is v) (where_then a.in_task refused.BadJump (omega arith) (first_is v) (within_higher i.ends (returned_lies a locals d i.span)))))
    stmt_lies {s = s} a locals (break_jump t mark split is1 is2) w =
        (let v = span_of split w in within_as (rules-break s all a locals refl) (where_within (not (may_break a.nearest)) refused.BadJump (first_on v) (span_order (behind_first v)) (first_is v)))
    stmt_lies {s = s} a locals (continue_jump t mark split is1 is2) w =
        (let v = span_of split w in within_as (rules-continue s all a locals refl) (where_within (not (may_continue a.nearest)) refused.BadJump (first_on v) (span_order (behind_first v)) (first_is v)))
    stmt_lies {s = s} a locals (print {values = values} t opened string bytes inner closed mark split is1 is2 is3 is4 is5 d) w =
        (let v = span_of split w in
        let i = between inner closed (mark ∷ []) (skip (skip (behind_first v))) in
        within_as (rules-print s all a locals bytes values refl) (on_then (first_on v) (first_is v) (on_format (conversions_of bytes) (length values) t.line) (within_higher i.ends (printed_lies locals d i.span))))
    stmt_lies {s = s} a locals (task {mark = mark} {s = t} front back split d f) w =
        (let q = cut front back (span_of split w) in
        within_as (rules-task s all a locals mark t refl) (within_both (pragma_lies all locals locals d q.before) (stmt_lies (scope_in (in_a_task a) locals) locals f q.behind)))
    stmt_lies {s = s} a locals (task_loop {head = head} {s = t} front middle back split d h f) w =
        (let q = cut front (middle ++ back) (span_of split w) in
        let r = cut middle back q.behind in
        let inside : List Local = loop_locals head locals in
        within_as (rules-task-loop s all a locals head t refl) (within_both (head_lies locals d h q.before r.before) (stmt_lies (scope_in (in_a_task_loop a) inside) inside f r.behind)))
    stmt_lies {s = s} a locals (task_wait {sections = sections} d) w = within_as (rules-wait s all a locals sections refl) (pragma_lies all locals locals d w)
    stmt_lies {s = s} a locals (release {clauses = clauses} d) w = within_as (rules-release s all a locals clauses refl) (pragma_lies all locals locals d w)

    pub items_lie : {P : ℕ → Type 0} {ts : List Token} {body : List Stmt} {high low : ℕ} (a : Around) (locals : List Local) → IsItems ts body → Span P high low ts → Within P high low (rules_of_all body all a locals).broken
    items_lie a locals (no_item split) w = within_end (span_order w)
    items_lie a locals (declaration_item {s = s} front mark back split is d more) w =
        (let q = cut front (mark ∷ back) (span_of split w) in
        within_both (declaration_lies all a locals d q.before) (items_lie a (rules_of s all a locals).locals more (skip q.behind)))
    items_lie a locals (statement_item {s = s} front back split d more) w =
        (let q = cut front back (span_of split w) in
        within_both (stmt_lies a locals d q.before) (items_lie a (rules_of s all a locals).locals more q.behind))
