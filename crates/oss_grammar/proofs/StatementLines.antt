-- The rules of a statement stand between the lines of its first and its last token, in rising order.
use Rattle.std.proofs.Common.{◌≡◌, ℕ, ◌≤◌, true, false, List, [], ◌∷◌, ◌++◌, length, refl, sym, ap, subst, ◌⊎◌, inl, inr, Option, Some, None, codes, arith}
use Rattle.std.specs.Prelude.{is_some, nat_le}
use Rattle.std.proofs.lemmas.Bool.{cases_Bool}
use Rattle.oss_syntax.specs.declared.refusal.RefusedKind.TheVariants as refused
use Rattle.oss_syntax.specs.declared.token.Token.{Token}
use Rattle.oss_syntax.specs.declared.token.TokenKind.{TokenKind}
use Rattle.oss_syntax.specs.declared.tree.expr.BinOp.{BinOp}
use Rattle.oss_syntax.specs.declared.tree.expr.BinOp.TheVariants as op
use Rattle.oss_syntax.specs.declared.tree.expr.UnOp.TheVariants as prefix
use Rattle.oss_syntax.specs.declared.tree.expr.Expr.{Expr}
use Rattle.oss_syntax.specs.declared.tree.expr.ExprKind.TheVariants as exprs
use Rattle.oss_syntax.specs.declared.tree.program.Item.{Item}
use Rattle.oss_syntax.specs.declared.tree.program.Kind.{Kind}
use Rattle.oss_syntax.specs.declared.tree.program.Kind.TheVariants as kind
use Rattle.oss_syntax.specs.declared.tree.program.Local.{Local}
use Rattle.oss_syntax.specs.declared.tree.program.NumKind.{NumKind}
use Rattle.oss_syntax.specs.declared.tree.stmt.Stmt.{Stmt}
use Rattle.oss_grammar.specs.declared.kinds.Around.{Around}
use Rattle.oss_grammar.specs.declared.kinds.Object.{Object}
use Rattle.oss_grammar.specs.declared.kinds.Object.TheVariants as object
use Rattle.oss_grammar.specs.declared.kinds.ValueKind.{ValueKind}
use Rattle.oss_grammar.specs.declared.kinds.ValueKind.TheVariants as value
use Rattle.oss_grammar.specs.declared.kinds.Wanted.{Wanted}
use Rattle.oss_grammar.specs.declared.kinds.Wanted.TheVariants as wanted
use Rattle.oss_grammar.specs.ExpressionRules.{findings, parameters_of}
use Rattle.oss_grammar.specs.Expressions.{IsArgumentList}
use Rattle.oss_grammar.specs.Expressions.IsArgumentList.{last_argument, next_argument}
use Rattle.oss_grammar.specs.Kinds.{Findings, all_of, allows, number_findings, placed, wanted_by}
use Rattle.oss_grammar.specs.OneToken.{is_symbol}
use Rattle.oss_grammar.specs.Scopes.{function_named, is_local_again, meaning}
use Rattle.oss_grammar.specs.SimpleStatements.{IsTarget, IsSimple, IsDeclared, IsLocal, IsLocals, IsDeclaration, element_of, one_at, step_of}
use Rattle.oss_grammar.specs.SimpleStatements.IsTarget.{name_target, element_target, grid_target, pointer_target, pointed_target}
use Rattle.oss_grammar.specs.SimpleStatements.IsSimple.{assigned, stepped, step_first, called}
use Rattle.oss_grammar.specs.SimpleStatements.IsDeclared.{number_declared, pointer_declared}
use Rattle.oss_grammar.specs.SimpleStatements.IsLocal.{plain_local, first_local}
use Rattle.oss_grammar.specs.SimpleStatements.IsLocals.{last_local, next_local}
use Rattle.oss_grammar.specs.SimpleStatements.IsDeclaration.{declaration}
use Rattle.oss_grammar.specs.StaticRules.{Judged, declare_all, first_rules, local_rules, numbers_rules, or_anything, rules_of, stored_in, stored_rules, target_wanted, with_local}
use Rattle.oss_grammar.proofs.ExpressionLines.{between, expr_lies, arguments_lie, lies_call, lies_index, lies_unary, on_name, value_lies}
use Rattle.oss_grammar.proofs.LineSpans.{Lies, Span, Within, behind_first, cut, first_is, first_on, lies_all, lies_higher, lies_of, lies_placed, lies_unless, skip, span_of, span_order, where_then, within_both, within_higher, within_lower, within_of}
use Rattle.oss_grammar.proofs.LineSpans.AllOn.{on_end}
use Rattle.oss_grammar.proofs.LineSpans.Within.{within_end}
use Rattle.oss_grammar.proofs.RuleEquations.{found-number, found-name, found-index, found-unary, rules-assign, rules-call, rules-declare}

pub within_as : {P : ℕ → Type 0} {high low : ℕ} {j k : Judged} → j ≡ k → Within P high low k.broken → Within P high low j.broken
within_as {P = P} {high = high} {low = low} e w = subst (λ (i : Judged). Within P high low i.broken) (sym e) w

-- `++` and `--` add and take away
steps : (k : TokenKind) (o : BinOp) → step_of k ≡ Some o → (o ≡ op.Add) ⊎ (o ≡ op.Sub)
unfolding step_of
steps k o is = elim (cases_Bool (is_symbol (codes "++") k)) [
  | inl plus ↦ (let e : Some op.Add ≡ Some o = rw plus at is in inl (cc))
  | inr other ↦ elim (cases_Bool (is_symbol (codes "--") k)) [
    | inl minus ↦ (let e : Some op.Sub ≡ Some o = rw (other, minus) at is in inr (cc))
    | inr last ↦ (let e : None ≡ Some o = rw (other, last) at is in absurd (cc))
  ]
]

-- so the number one that they take breaks no rule
one_stored : (o : BinOp) → (o ≡ op.Add) ⊎ (o ≡ op.Sub) → (what : Object) → allows (or_anything (stored_in (Some o) what)) value.Signed ≡ true
one_stored o is object.ValueOnly = refl
one_stored o is (object.Cell n) = refl
one_stored o is (object.Variable (kind.Num n)) = refl
one_stored o (inl e) (object.Variable (kind.Pointer n)) = rw e refl
one_stored o (inr e) (object.Variable (kind.Pointer n)) = rw e refl
one_stored o is (object.Variable kind.Nothing) = refl

one_allowed : (o : BinOp) → (o ≡ op.Add) ⊎ (o ≡ op.Sub) → (k : ValueKind) (what : Object) → allows (or_anything (target_wanted (Some o) k what)) value.Signed ≡ true
one_allowed o is value.Unknown what = refl
one_allowed o is value.Signed what = one_stored o is what
one_allowed o is value.Unsigned what = one_stored o is what
one_allowed o is (value.Pointer n) what = one_stored o is what
one_allowed o is (value.Rows n) what = one_stored o is what
one_allowed o is value.Nothing what = one_stored o is what

module _ (all : List Item) where
  -- what is assigned to
  target_lies : {P : ℕ → Type 0} {ts : List Token} {e : Expr} {high low : ℕ} (locals : List Local) → IsTarget ts e → Span P high low ts → Lies P high low e.line (findings all locals e)
  target_lies {e = e} locals (name_target t word split is) w =
      (let v = span_of split w in lies_of (found-name all locals e word refl) (record { at = refl; low_is = first_on v; has = first_is v; first = on_name (meaning all locals word) t.line; behind = within_end (span_order (behind_first v)) }))
  target_lies {P = P} {e = e} {high = high} {low = low} locals (element_target {at = at} t word opened inner closed split is o c d) w =
      (let v = span_of split w in
      let i = between inner closed [] (skip (behind_first v)) in
      let base : Expr = record { what = exprs.Name word; line = t.line } in
      let named : Lies P t.line low t.line (findings all locals base) = lies_of (found-name all locals base word refl) (record { at = refl; low_is = first_on v; has = first_is v; first = on_name (meaning all locals word) t.line; behind = within_end (omega arith) }) in
      lies_of (found-index all locals e base at refl) (lies_index named (lies_higher i.ends (expr_lies all locals d i.span))))
  target_lies {P = P} {e = e} {high = high} {low = low} locals (grid_target {row = row} {column = column} t word opened first closed again second ended split is o c is1 is2 d f) w =
      (let v = span_of split w in
      let q = cut first (closed ∷ again ∷ (second ++ (ended ∷ []))) (skip (behind_first v)) in
      let i = between second ended [] (skip (skip q.behind)) in
      let base : Expr = record { what = exprs.Name word; line = t.line } in
      let named : Lies P t.line low t.line (findings all locals base) = lies_of (found-name all locals base word refl) (record { at = refl; low_is = first_on v; has = first_is v; first = on_name (meaning all locals word) t.line; behind = within_end (omega arith) }) in
      let at_row : Lies P q.middle low t.line (findings all locals (element_of base row)) = lies_of (found-index all locals (element_of base row) base row refl) (lies_index named (expr_lies all locals d q.before)) in
      lies_of (found-index all locals e (element_of base row) column refl) (lies_index at_row (lies_higher i.ends (expr_lies all locals f i.span))))
  target_lies {P = P} {e = e} {high = high} locals (pointer_target star t word split o is) w =
      (let v = span_of split w in
      let u = behind_first v in
      let base : Expr = record { what = exprs.Name word; line = t.line } in
      let named : Lies P high star.line t.line (findings all locals base) = lies_of (found-name all locals base word refl) (record { at = refl; low_is = first_on u; has = first_is u; first = on_name (meaning all locals word) t.line; behind = within_end (span_order (behind_first u)) }) in
      lies_of (found-unary all locals e prefix.Deref base refl) (lies_unary prefix.Deref (first_on v) (first_is v) named))
  target_lies {e = e} locals (pointed_target {e = a} star opened inner closed split s o c d) w =
      (let v = span_of split w in
      let i = between inner closed [] (skip (behind_first v)) in
      lies_of (found-unary all locals e prefix.Deref a refl) (lies_unary prefix.Deref (first_on v) (first_is v) (lies_higher i.ends (expr_lies all locals d i.span))))

  stored_lie : {P : ℕ → Type 0} {high middle low line first : ℕ} (o : Option Wanted) {target e : Findings} → Lies P middle low line target → Lies P high middle first e → Within P high low (stored_rules o target e)
  stored_lie o {target = target} {e = e} l m = within_both (lies_all (lies_unless (is_some o) target l)) (lies_all (lies_placed (or_anything o) e m))

  one_lies : {P : ℕ → Type 0} {high low : ℕ} (locals : List Local) (line : ℕ) → low ≤ line → line ≤ high → P line → Lies P high low line (findings all locals (one_at line))
  one_lies locals line le he has = lies_of (found-number all locals (one_at line) 1 false refl) (record { at = refl; low_is = le; has = has; first = on_end; behind = within_end he })

  quiet : {P : ℕ → Type 0} {high low : ℕ} (w : Wanted) (line : ℕ) → allows w value.Signed ≡ true → low ≤ high → Within P high low (all_of (placed w (number_findings false line)))
  quiet w line is le = rw is (within_end le)

  pub simple_lies : {P : ℕ → Type 0} {ts : List Token} {s : Stmt} {high low : ℕ} (a : Around) (locals : List Local) → IsSimple ts s → Span P high low ts → Within P high low (rules_of s all a locals).broken
  simple_lies {s = s} a locals (assigned {target = target} {value = e} front mark operator back split is d f) w =
      (let q = cut front (mark ∷ back) (span_of split w) in
      within_as (rules-assign s all a locals target operator e refl)
      (stored_lie (target_wanted operator (findings all locals target).kind (findings all locals target).object) (target_lies locals d q.before) (expr_lies all locals f (skip q.behind))))
  simple_lies {s = s} a locals (stepped {target = target} front mark operator split is d) w =
      (let q = cut front (mark ∷ []) (span_of split w) in
      within_as (rules-assign s all a locals target (Some operator) (one_at mark.line) refl)
      (stored_lie (target_wanted (Some operator) (findings all locals target).kind (findings all locals target).object) (target_lies locals d q.before)
      (one_lies locals mark.line (first_on q.behind) (span_order (behind_first q.behind)) (first_is q.behind))))
  simple_lies {P = P} {s = s} {high = high} {low = low} a locals (step_first {target = target} mark operator back split is d) w =
      (let v = span_of split w in
      let f : Findings = findings all locals target in
      let o : Option Wanted = target_wanted (Some operator) f.kind f.object in
      let l = target_lies locals d (skip v) in
      let one : findings all locals (one_at mark.line) ≡ number_findings false mark.line = found-number all locals (one_at mark.line) 1 false refl in
      let silent : Within P high high (all_of (placed (or_anything o) (number_findings false mark.line))) = quiet (or_anything o) mark.line (one_allowed operator (steps mark.what operator is) f.kind f.object) (omega arith) in
      within_as (rules-assign s all a locals target (Some operator) (one_at mark.line) refl)
      (within_both (lies_all (lies_unless (is_some o) f l)) (within_of (ap (λ (g : Findings). all_of (placed (or_anything o) g)) one) silent)))
  simple_lies {s = s} a locals (called {values = values} t opened word inner closed split is o c args) w =
      (let v = span_of split w in
      let i = between inner closed [] (skip (behind_first v)) in
      within_as (rules-call s all a locals word values refl)
      (lies_all (lies_call all locals word t.line true values (first_on v) (first_is v) (within_higher i.ends (arguments_lie all locals (parameters_of (meaning all locals word) (function_named all word)) args i.span)))))

  -- declarations
  pub declared_from : {P : ℕ → Type 0} {numbers : NumKind} {ts : List Token} {k : Kind} {word : List ℕ} {line high low : ℕ} → IsDeclared numbers ts k word line → Span P high low ts → low ≤ line
  declared_from (number_declared t word split is) w = first_on (span_of split w)
  declared_from (pointer_declared star t word split o is) w = first_on (skip (span_of split w))

  pub declared_to : {P : ℕ → Type 0} {numbers : NumKind} {ts : List Token} {k : Kind} {word : List ℕ} {line high low : ℕ} → IsDeclared numbers ts k word line → Span P high low ts → line ≤ high
  declared_to (number_declared t word split is) w = span_order (behind_first (span_of split w))
  declared_to (pointer_declared star t word split o is) w = span_order (behind_first (skip (span_of split w)))

  pub declared_is : {P : ℕ → Type 0} {numbers : NumKind} {ts : List Token} {k : Kind} {word : List ℕ} {line high low : ℕ} → IsDeclared numbers ts k word line → Span P high low ts → P line
  declared_is (number_declared t word split is) w = first_is (span_of split w)
  declared_is (pointer_declared star t word split o is) w = first_is (skip (span_of split w))

  pub local_then : {P : ℕ → Type 0} {high low : ℕ} (start : ℕ) (l : Local) (locals : List Local) → low ≤ l.line → P l.line → Within P high l.line (first_rules all locals l) → Within P high low (local_rules all start l locals)
  local_then start l locals le has w = where_then (is_local_again start locals l.name) refused.DuplicateName le has (where_then (nat_le 255 (length locals)) refused.TooLarge (omega arith) has w)

  local_lies : {P : ℕ → Type 0} {numbers : NumKind} {ts : List Token} {l : Local} {high low : ℕ} (start : ℕ) (locals : List Local) → IsLocal numbers ts l → Span P high low ts → Within P high low (local_rules all start l locals)
  local_lies {l = l} start locals (plain_local d) w = local_then start l locals (declared_from d w) (declared_is d w) (within_end (declared_to d w))
  local_lies {l = l} start locals (first_local {k = k} front mark back split is d e) w =
      (let q = cut front (mark ∷ back) (span_of split w) in
      local_then start l locals (declared_from d q.before) (declared_is d q.before) (within_lower (declared_to d q.before) (value_lies all locals (wanted_by k) e (skip q.behind))))

  locals_lie : {P : ℕ → Type 0} {numbers : NumKind} {ts : List Token} {ls : List Local} {high low : ℕ} (start : ℕ) (locals : List Local) → IsLocals numbers ts ls → Span P high low ts → Within P high low (declare_all all start ls locals).broken
  locals_lie start locals (last_local d) w = within_both (local_lies start locals d w) (within_end (omega arith))
  locals_lie start locals (next_local {l = l} front comma back split is d more) w =
      (let q = cut front (comma ∷ back) (span_of split w) in
      within_both (local_lies start locals d q.before) (locals_lie start (with_local (is_local_again start locals l.name) l locals) more (skip q.behind)))

  pub declaration_lies : {P : ℕ → Type 0} {ts : List Token} {s : Stmt} {high low : ℕ} (a : Around) (locals : List Local) → IsDeclaration ts s → Span P high low ts → Within P high low (rules_of s all a locals).broken
  declaration_lies {s = s} a locals (declaration {locals = ls} front back split k d) w =
      (let q = cut front back (span_of split w) in
      within_as (rules-declare s all a locals ls refl) (within_lower (span_order q.before) (locals_lie a.start locals d q.behind)))

  -- the arguments of `printf`
  pub numbers_lie : {P : ℕ → Type 0} {ts : List Token} {values : List Expr} {high low : ℕ} (locals : List Local) → IsArgumentList ts values → Span P high low ts → Within P high low (numbers_rules all locals values)
  numbers_lie locals (last_argument d) w = within_both (value_lies all locals wanted.Number d w) (within_end (omega arith))
  numbers_lie locals (next_argument front comma back split is d more) w =
      (let q = cut front (comma ∷ back) (span_of split w) in within_both (value_lies all locals wanted.Number d q.before) (numbers_lie locals more (skip q.behind)))
