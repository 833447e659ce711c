-- The rules of a pragma stand between the lines of its first and its last token, in rising order.
use Rattle.std.proofs.Common.{◌≡◌, ℕ, ◌+◌, ◌≤◌, ◌==◌, ◌&&◌, ◌||◌, Bool, true, false, not, List, [], ◌∷◌, ◌++◌, length, refl, sym, Option, arith}
use Rattle.std.specs.Prelude.{nat_le}
use Rattle.oss_syntax.specs.declared.access.Mode.TheVariants.{Fold}
use Rattle.oss_syntax.specs.declared.refusal.Refused.{Refused}
use Rattle.oss_syntax.specs.declared.refusal.RefusedKind.TheVariants as refused
use Rattle.oss_syntax.specs.declared.token.Token.{Token}
use Rattle.oss_syntax.specs.declared.tree.expr.Expr.{Expr}
use Rattle.oss_syntax.specs.declared.tree.pragma.Clause.{Clause}
use Rattle.oss_syntax.specs.declared.tree.pragma.Directive.{Directive}
use Rattle.oss_syntax.specs.declared.tree.pragma.Directive.TheVariants as directive
use Rattle.oss_syntax.specs.declared.tree.pragma.Inner.{Inner}
use Rattle.oss_syntax.specs.declared.tree.pragma.Inner.TheVariants as inner_forms
use Rattle.oss_syntax.specs.declared.tree.pragma.Section.{Section}
use Rattle.oss_syntax.specs.declared.tree.pragma.Turns.{Turns}
use Rattle.oss_syntax.specs.declared.tree.program.Item.{Item}
use Rattle.oss_syntax.specs.declared.tree.program.Local.{Local}
use Rattle.oss_grammar.specs.declared.kinds.Wanted.TheVariants as wanted
use Rattle.oss_grammar.specs.Broken.{where_so}
use Rattle.oss_grammar.specs.ExpressionRules.{value_rules}
use Rattle.oss_grammar.specs.Expressions.{IsExpr, loosest_level}
use Rattle.oss_grammar.specs.Pragmas.{IsBound, IsInner, IsIndices, IsTurns, IsSection, IsSections, IsDepend, IsClause, IsClauses, IsMoreDepends, IsPragma, form_of_inner}
use Rattle.oss_grammar.specs.Pragmas.IsBound.{left_out, given}
use Rattle.oss_grammar.specs.Pragmas.IsInner.{element, counted, ranged}
use Rattle.oss_grammar.specs.Pragmas.IsIndices.{one_index, two_indices}
use Rattle.oss_grammar.specs.Pragmas.IsTurns.{turns}
use Rattle.oss_grammar.specs.Pragmas.IsSection.{whole, pointed, shape, part, grid, many}
use Rattle.oss_grammar.specs.Pragmas.IsSections.{last_section, next_section}
use Rattle.oss_grammar.specs.Pragmas.IsDepend.{depend}
use Rattle.oss_grammar.specs.Pragmas.IsClause.{dependency, reduction, condition, final_task, waiting, labelled, priority, grain}
use Rattle.oss_grammar.specs.Pragmas.IsClauses.{no_clause, plain_clause, comma_clause}
use Rattle.oss_grammar.specs.Pragmas.IsMoreDepends.{no_depend, plain_depend, comma_depend}
use Rattle.oss_grammar.specs.Pragmas.IsPragma.{task, task_loop, wait_all, wait_on, release}
use Rattle.oss_grammar.specs.Scopes.{meaning}
use Rattle.oss_grammar.specs.SectionRules.{begins_with_base, clause_rules, clauses_rules, ends_with_base, form_rules, inner_rules, is_fold, is_missing, is_wrong_section, loop_clause_rules, loop_clauses_rules, many_rules, optional_rules, section_rules, sections_in, sections_rules}
use Rattle.oss_grammar.specs.StaticRules.{wait_rules}
use Rattle.oss_grammar.proofs.ClauseScopes.{same_scope}
use Rattle.oss_grammar.proofs.ExpressionLines.{between, value_lies}
use Rattle.oss_grammar.proofs.LineSpans.{Span, Within, behind_first, cut, first_is, first_on, skip, span_of, span_order, where_then, where_within, within_both, within_higher, within_lower, within_of}
use Rattle.oss_grammar.proofs.LineSpans.Within.{within_end}

module _ (all : List Item) (locals : List Local) where
  bound_lies : {P : ℕ → Type 0} {ts : List Token} {o : Option Expr} {high low : ℕ} → IsBound ts o → Span P high low ts → Within P high low (optional_rules all locals o)
  bound_lies (left_out split) w = within_end (span_order w)
  bound_lies (given d) w = value_lies all locals wanted.Number d w

  inner_lies : {P : ℕ → Type 0} {ts : List Token} {f : Inner} {high low : ℕ} → IsInner ts f → Span P high low ts → Within P high low (inner_rules all locals f)
  inner_lies (element d) w = value_lies all locals wanted.Number d w
  inner_lies (counted front mark back split is d e) w =
      (let q = cut front (mark ∷ back) (span_of split w) in within_both (value_lies all locals wanted.Number d q.before) (value_lies all locals wanted.Number e (skip q.behind)))
  inner_lies (ranged front mark back split is d e) w =
      (let q = cut front (mark ∷ back) (span_of split w) in within_both (bound_lies d q.before) (bound_lies e (skip q.behind)))

  -- with one pair of brackets
  begins : (f : Inner) → begins_with_base (form_of_inner f) ≡ true
  begins (inner_forms.Element e) = refl
  begins (inner_forms.Length e n) = refl
  begins (inner_forms.Span e u) = refl

  ends : (f : Inner) → ends_with_base (form_of_inner f) ≡ false
  ends (inner_forms.Element e) = refl
  ends (inner_forms.Length e n) = refl
  ends (inner_forms.Span e u) = refl

  rules_in : (f : Inner) → form_rules all locals (form_of_inner f) ≡ inner_rules all locals f
  rules_in (inner_forms.Element e) = refl
  rules_in (inner_forms.Length e n) = refl
  rules_in (inner_forms.Span e u) = refl

  -- multidependencies
  indices_then : {P : ℕ → Type 0} {ts : List Token} {e : Expr} {f : Option Expr} {rest : List Refused} {high middle low : ℕ} (visible : List Local) → IsIndices ts e f → Span P middle low ts → Within P high middle rest
      → Within P high low (value_rules all visible wanted.Number e ++ (optional_rules all visible f ++ rest))
  indices_then visible (one_index opened inner closed split o c d) w behind =
      (let i = between inner closed [] (skip (span_of split w)) in within_both (value_lies all visible wanted.Number d i.span) (within_lower i.ends behind))
  indices_then visible (two_indices opened first closed again second ended split o c is1 is2 d f) w behind =
      (let q = cut first (closed ∷ again ∷ (second ++ (ended ∷ []))) (skip (span_of split w)) in
      let i = between second ended [] (skip (skip q.behind)) in
      within_both (value_lies all visible wanted.Number d q.before) (within_both (value_lies all visible wanted.Number f i.span) (within_lower i.ends behind)))

  turns_lie : {P : ℕ → Type 0} {ts : List Token} {several : Turns} {high low : ℕ} (b : Bool) → IsTurns ts several → Span P high low ts
      → Within P high low (where_so b refused.TooLarge several.variable.line ++ (optional_rules all locals several.variable.first ++ value_rules all locals wanted.Number several.count))
  turns_lie b (turns t set word front mark back split is1 is2 is3 d e) w =
      (let v = span_of split w in
      let q = cut front (mark ∷ back) (skip (behind_first v)) in
      where_then b refused.TooLarge (first_on v) (first_is v) (within_both (value_lies all locals wanted.Number d q.before) (value_lies all locals wanted.Number e (skip q.behind))))

  many_lies : {P : ℕ → Type 0} {ts us : List Token} {e : Expr} {f : Option Expr} {several : Turns} {high middle low : ℕ} → IsIndices ts e f → IsTurns us several → Span P middle low ts → Span P high middle us
      → Within P high low (many_rules all locals e f several)
  many_lies {several = several} d t w u = indices_then (locals ++ (several.variable ∷ [])) d w (turns_lie (nat_le 255 (length locals)) t u)

  -- sections
  abbrev base_second : Section → List Refused
  base_second s = where_so (not (begins_with_base s.form || ends_with_base s.form) && is_missing (meaning all locals s.base)) refused.UnknownName s.base_line

  abbrev base_last : Section → List Refused
  base_last s = where_so (ends_with_base s.form && is_missing (meaning all locals s.base)) refused.UnknownName s.base_line

  section_lies : {P : ℕ → Type 0} {high low : ℕ} (fold : Bool) (before : ℕ) (s : Section) → low ≤ s.line → P s.line → Within P high s.line (base_second s ++ (form_rules all locals s.form ++ base_last s)) → Within P high low (section_rules all locals fold before s)
  section_lies fold before s le has w =
      where_then (begins_with_base s.form && is_missing (meaning all locals s.base)) refused.UnknownName le has
      (where_then (is_wrong_section fold s.form (meaning all locals s.base)) refused.WrongKind (omega arith) has
      (where_then (before == 64) refused.TooLarge (omega arith) has w))

  no_base : {P : ℕ → Type 0} {high low : ℕ} (s : Section) → begins_with_base s.form ≡ true → ends_with_base s.form ≡ false → Within P high low (form_rules all locals s.form)
      → Within P high low (base_second s ++ (form_rules all locals s.form ++ base_last s))
  no_base s is not_is w =
      (let first : base_second s ≡ [] = rw is refl in
      let gone : base_last s ≡ [] = rw not_is refl in
      within_both (within_of first (within_end (omega arith))) (within_both w (within_of gone (within_end (omega arith)))))

  one_section : {P : ℕ → Type 0} {ts : List Token} {s : Section} {high low : ℕ} (fold : Bool) (before : ℕ) → IsSection ts s → Span P high low ts → Within P high low (section_rules all locals fold before s)
  one_section {s = s} fold before (whole t base split is) w =
      (let v = span_of split w in section_lies fold before s (first_on v) (first_is v) (within_end (span_order (behind_first v))))
  one_section {s = s} fold before (pointed star t base split o is) w =
      (let v = span_of split w in
      let u = behind_first v in
      section_lies fold before s (first_on v) (first_is v) (where_within (is_missing (meaning all locals base)) refused.UnknownName (first_on u) (span_order (behind_first u)) (first_is u)))
  one_section {s = s} fold before (shape opened inner closed t base split o c is d) w =
      (let v = span_of split w in
      let q = cut inner (closed ∷ t ∷ []) (behind_first v) in
      let u = skip q.behind in
      section_lies fold before s (first_on v) (first_is v) (within_both (value_lies all locals wanted.Number d q.before) (where_within (is_missing (meaning all locals base)) refused.UnknownName (first_on u) (span_order (behind_first u)) (first_is u))))
  one_section {s = s} fold before (part {cells = f} t base opened inner closed split is o c d) w =
      (let v = span_of split w in
      let i = between inner closed [] (skip (behind_first v)) in
      section_lies fold before s (first_on v) (first_is v) (no_base s (begins f) (ends f) (within_of (rules_in f) (within_higher i.ends (inner_lies d i.span)))))
  one_section {s = s} fold before (grid t base opened first closed again second ended split is o c is1 is2 d f) w =
      (let v = span_of split w in
      let q = cut first (closed ∷ again ∷ (second ++ (ended ∷ []))) (skip (behind_first v)) in
      let i = between second ended [] (skip (skip q.behind)) in
      section_lies fold before s (first_on v) (first_is v) (no_base s refl refl (within_both (inner_lies d q.before) (within_higher i.ends (inner_lies f i.span)))))
  one_section {s = s} fold before (many opened t base indices comma back closed split o is d c f is1) w =
      (let v = span_of split w in
      let u = behind_first v in
      let q = cut indices (comma ∷ (back ++ (closed ∷ []))) (behind_first u) in
      let i = between back closed [] (skip q.behind) in
      section_lies fold before s (first_on v) (first_is v) (where_then (is_missing (meaning all locals base)) refused.UnknownName (first_on u) (first_is u) (within_both (many_lies d f q.before i.span) (within_end i.ends))))

  pub sections_lie : {P : ℕ → Type 0} {ts : List Token} {ss : List Section} {high low : ℕ} (fold : Bool) (before : ℕ) → IsSections ts ss → Span P high low ts → Within P high low (sections_rules all locals fold before ss)
  sections_lie fold before (last_section d) w = within_both (one_section fold before d w) (within_end (omega arith))
  sections_lie fold before (next_section front comma back split is d more) w =
      (let q = cut front (comma ∷ back) (span_of split w) in within_both (one_section fold before d q.before) (sections_lie fold (before + 1) more (skip q.behind)))

  depend_lies : {P : ℕ → Type 0} {ts : List Token} {c : Clause} {high low : ℕ} (before : ℕ) → IsDepend ts c → Span P high low ts → Within P high low (clause_rules all locals before c)
  depend_lies before (depend t opened inner closed mode strong fresh split is o c d) w =
      (let i = between inner closed [] (skip (skip (span_of split w))) in within_higher i.ends (sections_lie (is_fold mode) before d i.span))

  in_brackets : {P : ℕ → Type 0} {e : Expr} {high low : ℕ} (inner : List Token) (closed : Token) → IsExpr loosest_level inner e → Span P high low (inner ++ (closed ∷ [])) → Within P high low (value_rules all locals wanted.Number e)
  in_brackets inner closed d w = (let i = between inner closed [] w in within_higher i.ends (value_lies all locals wanted.Number d i.span))

  depends_lie : {P : ℕ → Type 0} {ts : List Token} {cs : List Clause} {high low : ℕ} (before : ℕ) → IsMoreDepends ts cs → Span P high low ts → Within P high low (clauses_rules all locals before cs)
  depends_lie before (no_depend split) w = within_end (span_order w)
  depends_lie before (plain_depend {c = c} front back split d more) w =
      (let q = cut front back (span_of split w) in within_both (depend_lies before d q.before) (depends_lie (before + length (sections_in c)) more q.behind))
  depends_lie before (comma_depend {c = c} comma front back split is d more) w =
      (let q = cut front back (skip (span_of split w)) in within_both (depend_lies before d q.before) (depends_lie (before + length (sections_in c)) more q.behind))

-- clauses, with these locals in scope in the grainsize of a task loop
module _ (all : List Item) (outer locals : List Local) where
  loop_clause_lies : {P : ℕ → Type 0} {ts : List Token} {c : Clause} {high low : ℕ} (before : ℕ) → IsClause ts c → Span P high low ts → Within P high low (loop_clause_rules all outer locals before c)
  loop_clause_lies before (dependency (depend t opened inner closed mode strong fresh split is o c d)) w =
      (let i = between inner closed [] (skip (skip (span_of split w))) in within_higher i.ends (sections_lie all locals (is_fold mode) before d i.span))
  loop_clause_lies before (reduction t opened o colon inner closed strong operator split is1 is2 is3 is4 is5 d) w =
      (let i = between inner closed [] (skip (skip (skip (skip (span_of split w))))) in within_higher i.ends (sections_lie all locals (is_fold (Fold operator)) before d i.span))
  loop_clause_lies before (condition t opened inner closed split is1 is2 is3 d) w = in_brackets all locals inner closed d (skip (skip (span_of split w)))
  loop_clause_lies before (final_task t opened inner closed split is1 is2 is3 d) w = in_brackets all locals inner closed d (skip (skip (span_of split w)))
  loop_clause_lies before (waiting t split is) w = within_end (span_order w)
  loop_clause_lies before (labelled t opened inner closed bytes split is1 is2 is3 is4) w = within_end (span_order w)
  loop_clause_lies before (priority t opened inner closed split is1 is2 is3 d) w = in_brackets all locals inner closed d (skip (skip (span_of split w)))
  loop_clause_lies before (grain t opened inner closed split is1 is2 is3 d) w = in_brackets all outer inner closed d (skip (skip (span_of split w)))

  loop_clauses_lie : {P : ℕ → Type 0} {ts : List Token} {cs : List Clause} {high low : ℕ} (before : ℕ) → IsClauses ts cs → Span P high low ts → Within P high low (loop_clauses_rules all outer locals before cs)
  loop_clauses_lie before (no_clause split) w = within_end (span_order w)
  loop_clauses_lie before (plain_clause {c = c} front back split d more) w =
      (let q = cut front back (span_of split w) in within_both (loop_clause_lies before d q.before) (loop_clauses_lie (before + length (sections_in c)) more q.behind))
  loop_clauses_lie before (comma_clause {c = c} comma front back split is d more) w =
      (let q = cut front back (skip (span_of split w)) in within_both (loop_clause_lies before d q.before) (loop_clauses_lie (before + length (sections_in c)) more q.behind))

-- the rules of a whole pragma
module _ (all : List Item) (outer locals : List Local) where
  abbrev pub directive_rules : Directive → List Refused
  directive_rules (directive.Task mark) = clauses_rules all locals 0 mark.clauses
  directive_rules (directive.TaskLoop mark) = loop_clauses_rules all outer locals 0 mark.clauses
  directive_rules (directive.TaskWait sections) = wait_rules all locals sections
  directive_rules (directive.Release clauses) = clauses_rules all locals 0 clauses

  pub pragma_lies : {P : ℕ → Type 0} {ts : List Token} {d : Directive} {high low : ℕ} → IsPragma ts d → Span P high low ts → Within P high low (directive_rules d)
  pragma_lies (task {clauses = clauses} start word inner end split is1 is2 is3 d once none) w =
      (let i = between inner end [] (skip (skip (span_of split w))) in within_of (sym (same_scope all locals 0 clauses)) (within_higher i.ends (loop_clauses_lie all locals locals 0 d i.span)))
  pragma_lies (task_loop start word inner end split is1 is2 is3 d once) w =
      (let i = between inner end [] (skip (skip (span_of split w))) in within_higher i.ends (loop_clauses_lie all outer locals 0 d i.span))
  pragma_lies (wait_all start word end split is1 is2 is3) w = within_end (span_order w)
  pragma_lies (wait_on start word on opened inner closed end split is1 is2 is3 is4 is5 is6 d) w =
      (let i = between inner closed (end ∷ []) (skip (skip (skip (skip (span_of split w))))) in within_higher i.ends (sections_lie all locals false 0 d i.span))
  pragma_lies (release {c = c} start word front back end split is1 is2 is3 d more) w =
      (let q = cut front (back ++ (end ∷ [])) (skip (skip (span_of split w))) in
      let i = between back end [] q.behind in
      within_both (depend_lies all locals 0 d q.before) (within_higher i.ends (depends_lie all locals (0 + length (sections_in c)) more i.span)))
