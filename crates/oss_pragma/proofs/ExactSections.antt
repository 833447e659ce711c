-- The reader of sections is exact for each exact reader of expressions.
use Rattle.std.proofs.Common.{◌≡◌, ℕ, Bool, true, false, ◌||◌, List, [], ◌∷◌, ◌++◌, refl, sym, ap, ◌∙◌, subst, append_assoc, Option, Some, None}
use Rattle.std.specs.Prelude.{codes}
use Rattle.std.proofs.lemmas.List.{append-nil}
use Rattle.oss_syntax.specs.declared.token.Token.{Token}
use Rattle.oss_syntax.specs.declared.token.TokenKind.TheVariants as kinds
use Rattle.oss_syntax.specs.declared.tree.expr.Expr.{Expr}
use Rattle.oss_syntax.specs.declared.tree.pragma.Form.{Form}
use Rattle.oss_syntax.specs.declared.tree.pragma.Form.TheVariants as form
use Rattle.oss_syntax.specs.declared.tree.pragma.Inner.{Inner}
use Rattle.oss_syntax.specs.declared.tree.pragma.Inner.TheVariants as inner_forms
use Rattle.oss_syntax.specs.declared.tree.pragma.Section.{Section}
use Rattle.oss_grammar.specs.Expressions.{IsWhole, prefix_of, operator_of}
use Rattle.oss_grammar.specs.Fronts.{Viable}
use Rattle.oss_grammar.specs.Grammar.{One, Both, Mapped, Either}
use Rattle.oss_grammar.specs.Grammar.Either.{one_way, other_way}
use Rattle.oss_grammar.specs.Levels.{IsExcessBehind, OpensInner, OpensSection, OpensSections}
use Rattle.oss_grammar.specs.Levels.OpensInner.{inner_first, inner_count, inner_last}
use Rattle.oss_grammar.specs.Levels.OpensSection.{section_shape, section_part, section_columns, section_indices, section_turns}
use Rattle.oss_grammar.specs.Levels.OpensSections.{sections_first, sections_later}
use Rattle.oss_grammar.specs.OneToken.{IsIndexOpen, IsIndexClose}
use Rattle.oss_grammar.specs.Pragmas.{IsBound, IsInner, IsSection, IsSections, form_of_inner}
use Rattle.oss_grammar.specs.Pragmas.IsBound.{left_out, given}
use Rattle.oss_grammar.specs.Pragmas.IsInner.{element, counted, ranged}
use Rattle.oss_grammar.specs.Pragmas.IsSection.{whole, pointed, shape, part, grid, many}
use Rattle.oss_grammar.specs.Pragmas.IsSections.{last_section, next_section}
use Rattle.oss_grammar.specs.Reading.{Reader, begins, has, one_of, never, read_one, read_then, read_nothing, read_both, read_either}
use Rattle.oss_grammar.proofs.Parts.{Exact, Begun, exact_as, exact_before, member_begins, deep_begins}
use Rattle.oss_grammar.proofs.PartLemmas.{Nowhere, nowhere, exact_one, begun_one, Nothing, exact_nothing, exact_mapped, begun_mapped, Then, ThenDeep, exact_then, begun_then, EitherDeep, exact_either, begun_either}
use Rattle.oss_grammar.proofs.PartLemmas.EitherDeep.{one_deep, other_deep}
use Rattle.oss_grammar.proofs.StepLemmas.{none_goes, fewer_go}
use Rattle.oss_expressions.specs.TokenValues.{symbol_at, name_at, begins_expression}
use Rattle.oss_expressions.specs.declared.cursor.Named.{Named}
use Rattle.oss_expressions.proofs.ExactPairs.{BothDeep, exact_both, Headed, HeadedDeep, exact_headed, begun_headed, Bracketed, BracketedDeep, exact_bracketed, begun_bracketed, Behind, exact_behind, begun_behind, exact_or, symbol_line}
use Rattle.oss_expressions.proofs.ListLemmas.{comma, Listed, ListedDeep, exact_list, begun_list}
use Rattle.oss_expressions.proofs.ListLemmas.Listed.{last_part, next_part}
use Rattle.oss_expressions.proofs.ListLemmas.ListedDeep.{deep_first, deep_later}
use Rattle.oss_expressions.proofs.PrimaryLemmas.{NameIs, name_is, name_value}
use Rattle.oss_expressions.proofs.TokenLemmas.{begins_never, exact_closed, symbol_token, symbol_value, goes_on, on_symbol, not_symbol, has_symbol}
use Rattle.oss_pragma.specs.PragmaReading.{read_upper, read_span, read_length, read_inner_from, read_inner, read_pointed, read_shape, read_dimension, read_columns, read_part, read_based, read_many, read_section, read_sections, pointed_section, shape_section, part_section, whole_section}
use Rattle.oss_pragma.proofs.ExactMany.{whole_viable, semicolon_apart, closed_apart, closed_before, Many, ManyDeep, exact_many, begun_many, many_into, many_back, many_deeper, many_in_indices, many_in_turns}

-- no expression goes on with these, nor begins with the others
colon_apart : (t : Token) → has (symbol_at (codes ":")) t ≡ true → goes_on t ≡ false
unfolding operator_of
colon_apart t e = on_symbol goes_on (codes ":") false (λ line. refl) t (has_symbol (codes ":") t e)

pub bracket_apart : (t : Token) → has (symbol_at (codes ")")) t ≡ true → goes_on t ≡ false
unfolding operator_of
bracket_apart t e = on_symbol goes_on (codes ")") false (λ line. refl) t (has_symbol (codes ")") t e)

or_no_first : (p q : Bool) → (p || q) ≡ false → p ≡ false
or_no_first false q e = refl
or_no_first true q e = absurd (cc)

or_no_second : (p q : Bool) → (p || q) ≡ false → q ≡ false
or_no_second false q e = e
or_no_second true q e = absurd (cc)

-- with these tokens what stands between the brackets of a section may go on
abbrev inner_goes : Token → Bool
inner_goes t = begins_expression t || (goes_on t || (has (symbol_at (codes ";")) t || has (symbol_at (codes ":")) t))

inner_begins : (t : Token) → inner_goes t ≡ false → begins_expression t ≡ false
inner_begins t e = or_no_first (begins_expression t) _ e

inner_on : (t : Token) → inner_goes t ≡ false → goes_on t ≡ false
inner_on t e = or_no_first (goes_on t) _ (or_no_second (begins_expression t) _ e)

inner_semicolon : (t : Token) → inner_goes t ≡ false → has (symbol_at (codes ";")) t ≡ false
inner_semicolon t e = or_no_first (has (symbol_at (codes ";")) t) _ (or_no_second (goes_on t) _ (or_no_second (begins_expression t) _ e))

inner_colon : (t : Token) → inner_goes t ≡ false → has (symbol_at (codes ":")) t ≡ false
inner_colon t e = or_no_second (has (symbol_at (codes ";")) t) _ (or_no_second (goes_on t) _ (or_no_second (begins_expression t) _ e))

module _ {expression : Reader Expr} {X : List Token → Token → Type 0} (part_of : Exact expression IsWhole X goes_on) (first : Begun expression begins_expression) where
  value : Exact expression IsWhole X inner_goes
  value = exact_before goes_on inner_goes (λ rest free. fewer_go inner_goes goes_on inner_on rest free) part_of

  upper_into : (xs : List Token) (e : Option Expr) → Either (Mapped Some IsWhole) (Nothing None) xs e → IsBound xs e
  upper_into xs e (one_way w) = subst (λ e. IsBound xs e) w.made (given w.whole)
  upper_into xs e (other_way w) = subst (λ e. IsBound xs e) w.same (left_out w.nothing)

  upper_back : (xs : List Token) (e : Option Expr) → IsBound xs e → Either (Mapped Some IsWhole) (Nothing None) xs e
  upper_back xs e (left_out none) = other_way (record { nothing = none; same = refl })
  upper_back xs e (given {e = v} w) = one_way (record { part = v; made = refl; whole = w })

  upper_deeper : (xs : List Token) (t : Token) → EitherDeep X Nowhere xs t → X xs t
  upper_deeper xs t (one_deep d) = d
  upper_deeper xs t (other_deep d) = nowhere xs t d

  exact_upper : Exact (read_upper expression) IsBound X inner_goes
  unfolding read_upper
  exact_upper = exact_as upper_into upper_back upper_deeper (λ xs t d. one_deep d)
      (exact_either begins_expression (exact_mapped Some value) (begun_mapped Some first) (exact_nothing None inner_goes)
      (λ ys b rest w free. ap (λ zs. begins begins_expression (zs ++ rest)) w.nothing ∙ fewer_go inner_goes begins_expression inner_begins rest free)
      (λ ys t rest d. nowhere ys t d))

  bound_viable : Viable IsBound []
  bound_viable = record { more = []; value = None; member = left_out refl }

  exact_span : (before : Option Expr) → Exact (read_span expression before) (Mapped (inner_forms.Span before) (Behind (codes ":") IsBound)) (BracketedDeep (codes ":") X) inner_goes
  unfolding read_span
  exact_span before = exact_mapped (inner_forms.Span before) (exact_behind (codes ":") exact_upper bound_viable refl)

  begun_span : (before : Option Expr) → Begun (read_span expression before) (has (symbol_at (codes ":")))
  unfolding read_span
  begun_span before = begun_mapped (inner_forms.Span before) (begun_behind (codes ":") exact_upper bound_viable refl)

  exact_length : (before : Expr) → Exact (read_length expression before) (Mapped (inner_forms.Length before) (Behind (codes ";") IsWhole)) (BracketedDeep (codes ";") X) inner_goes
  unfolding read_length
  exact_length before = exact_mapped (inner_forms.Length before) (exact_behind (codes ";") value whole_viable refl)

  begun_length : (before : Expr) → Begun (read_length expression before) (has (symbol_at (codes ";")))
  unfolding read_length
  begun_length before = begun_mapped (inner_forms.Length before) (begun_behind (codes ";") value whole_viable refl)

  abbrev From : Expr → List Token → Inner → Type 0
  From before = Either (Mapped (inner_forms.Length before) (Behind (codes ";") IsWhole)) (Either (Mapped (inner_forms.Span (Some before)) (Behind (codes ":") IsBound)) (Nothing (inner_forms.Element before)))

  abbrev FromDeep : List Token → Token → Type 0
  FromDeep = EitherDeep (BracketedDeep (codes ";") X) (EitherDeep (BracketedDeep (codes ":") X) Nowhere)

  -- what stands behind the first expression begins with a mark, or there is nothing
  span_apart : (test : Token → Bool) → ((t : Token) → has (symbol_at (codes ":")) t ≡ true → test t ≡ false) → ((t : Token) → inner_goes t ≡ false → test t ≡ false)
      → (before : Expr) (ys : List Token) (c : Inner) (rest : List Token) → Either (Mapped (inner_forms.Span (Some before)) (Behind (codes ":") IsBound)) (Nothing (inner_forms.Element before)) ys c
      → begins inner_goes rest ≡ false → begins test (ys ++ rest) ≡ false
  span_apart test colon free before ys c rest (one_way w) none =
      none_goes (has (symbol_at (codes ":"))) test colon (ys ++ rest) (member_begins (exact_span (Some before)) (begun_span (Some before)) ys c rest w)
  span_apart test colon free before ys c rest (other_way w) none = ap (λ zs. begins test (zs ++ rest)) w.nothing ∙ fewer_go inner_goes test free rest none

  span_apart_deep : (test : Token → Bool) → ((t : Token) → has (symbol_at (codes ":")) t ≡ true → test t ≡ false)
      → (before : Expr) (ys : List Token) (t : Token) (rest : List Token) → EitherDeep (BracketedDeep (codes ":") X) Nowhere ys t → begins test (ys ++ (t ∷ rest)) ≡ false
  span_apart_deep test colon before ys t rest (one_deep d) =
      none_goes (has (symbol_at (codes ":"))) test colon (ys ++ (t ∷ rest)) (deep_begins (exact_span (Some before)) (begun_span (Some before)) ys t rest d)
  span_apart_deep test colon before ys t rest (other_deep d) = nowhere ys t d

  colon_no_semicolon : (t : Token) → has (symbol_at (codes ":")) t ≡ true → has (symbol_at (codes ";")) t ≡ false
  colon_no_semicolon t e = on_symbol (has (symbol_at (codes ";"))) (codes ":") false (λ line. refl) t (has_symbol (codes ":") t e)

  exact_inner_from : (before : Expr) → Exact (read_inner_from expression before) (From before) FromDeep inner_goes
  unfolding read_inner_from
  exact_inner_from before = exact_either (has (symbol_at (codes ";"))) (exact_length before) (begun_length before)
      (exact_either (has (symbol_at (codes ":"))) (exact_span (Some before)) (begun_span (Some before)) (exact_nothing (inner_forms.Element before) inner_goes)
      (λ ys b rest w free. ap (λ zs. begins (has (symbol_at (codes ":"))) (zs ++ rest)) w.nothing ∙ fewer_go inner_goes (has (symbol_at (codes ":"))) inner_colon rest free)
      (λ ys t rest d. nowhere ys t d))
      (λ ys b rest w free. span_apart (has (symbol_at (codes ";"))) colon_no_semicolon inner_semicolon before ys b rest w free)
      (λ ys t rest d. span_apart_deep (has (symbol_at (codes ";"))) colon_no_semicolon before ys t rest d)

  from_apart : (before : Expr) (ys : List Token) (c : Inner) (rest : List Token) → From before ys c → begins inner_goes rest ≡ false → begins goes_on (ys ++ rest) ≡ false
  from_apart before ys c rest (one_way w) none =
      none_goes (has (symbol_at (codes ";"))) goes_on semicolon_apart (ys ++ rest) (member_begins (exact_length before) (begun_length before) ys c rest w)
  from_apart before ys c rest (other_way w) none = span_apart goes_on colon_apart inner_on before ys c rest w none

  from_apart_deep : (before : Expr) (ys : List Token) (t : Token) (rest : List Token) → FromDeep ys t → begins goes_on (ys ++ (t ∷ rest)) ≡ false
  from_apart_deep before ys t rest (one_deep d) =
      none_goes (has (symbol_at (codes ";"))) goes_on semicolon_apart (ys ++ (t ∷ rest)) (deep_begins (exact_length before) (begun_length before) ys t rest d)
  from_apart_deep before ys t rest (other_deep d) = span_apart_deep goes_on colon_apart before ys t rest d

  from_viable : (before : Expr) → Viable (From before) []
  from_viable before = record { more = []; value = inner_forms.Element before; member = other_way (other_way (record { nothing = refl; same = refl })) }

  exact_placed : Exact (read_then expression (read_inner_from expression)) (Then IsWhole From) (ThenDeep X IsWhole (λ before. FromDeep)) inner_goes
  exact_placed = exact_then part_of exact_inner_from from_apart from_apart_deep from_viable

  begun_placed : Begun (read_then expression (read_inner_from expression)) begins_expression
  begun_placed = begun_then part_of exact_inner_from from_apart from_apart_deep from_viable first

  abbrev InnerParts : List Token → Inner → Type 0
  InnerParts = Either (Mapped (inner_forms.Span None) (Behind (codes ":") IsBound)) (Then IsWhole From)

  abbrev InnerDeep : List Token → Token → Type 0
  InnerDeep = EitherDeep (BracketedDeep (codes ":") X) (ThenDeep X IsWhole (λ before. FromDeep))

  inner_from_into : (xs front back : List Token) (before : Expr) (c : Inner) → xs ≡ front ++ back → IsWhole front before → From before back c → IsInner xs c
  inner_from_into xs front back before c e w (one_way m) =
      subst (λ c. IsInner xs c) m.made (counted front m.whole.mark m.whole.back (e ∙ ap (λ ys. front ++ ys) m.whole.split) m.whole.marks w m.whole.behind)
  inner_from_into xs front back before c e w (other_way (one_way m)) =
      subst (λ c. IsInner xs c) m.made (ranged front m.whole.mark m.whole.back (e ∙ ap (λ ys. front ++ ys) m.whole.split) m.whole.marks (given w) m.whole.behind)
  inner_from_into xs front back before c e w (other_way (other_way n)) =
      let same : xs ≡ front = e ∙ (ap (λ ys. front ++ ys) n.nothing ∙ append-nil front) in
      subst (λ c. IsInner xs c) n.same (element (subst (λ ys. IsWhole ys before) (sym same) w))

  inner_into : (xs : List Token) (c : Inner) → InnerParts xs c → IsInner xs c
  inner_into xs c (one_way m) = subst (λ c. IsInner xs c) m.made (ranged [] m.whole.mark m.whole.back m.whole.split m.whole.marks (left_out refl) m.whole.behind)
  inner_into xs c (other_way w) = inner_from_into xs w.front w.back w.value c w.split w.before w.behind

  inner_back : (xs : List Token) (c : Inner) → IsInner xs c → InnerParts xs c
  inner_back xs c (element {e = v} w) = other_way (record { front = xs; back = []; value = v; split = sym (append-nil xs); before = w; behind = other_way (other_way (record { nothing = refl; same = refl })) })
  inner_back xs c (counted {first = a} {count = b} front mark back e s v w) = other_way (record {
    front = front;
    back = mark ∷ back;
    value = a;
    split = e;
    before = v;
    behind = one_way (record { part = b; made = refl; whole = record { mark = mark; back = back; split = refl; marks = s; behind = w } });
  })
  inner_back xs c (ranged {last = b} front mark back e s (left_out none) w) = one_way (record {
    part = b;
    made = refl;
    whole = record { mark = mark; back = back; split = e ∙ ap (λ ys. ys ++ (mark ∷ back)) none; marks = s; behind = w };
  })
  inner_back xs c (ranged {last = b} front mark back e s (given {e = a} v) w) = other_way (record {
    front = front;
    back = mark ∷ back;
    value = a;
    split = e;
    before = v;
    behind = other_way (one_way (record { part = b; made = refl; whole = record { mark = mark; back = back; split = refl; marks = s; behind = w } }));
  })

  at_mark : (xs front back : List Token) (mark : Token) (inner : List Token) → xs ≡ front ++ back → back ≡ mark ∷ inner → xs ≡ (front ++ (mark ∷ [])) ++ inner
  at_mark xs front back mark inner e s = e ∙ (ap (λ ys. front ++ ys) s ∙ sym (append_assoc front (mark ∷ []) inner))

  mark_at : (xs before inner front : List Token) (mark : Token) → xs ≡ before ++ inner → before ≡ front ++ (mark ∷ []) → xs ≡ front ++ (mark ∷ inner)
  mark_at xs before inner front mark e s = e ∙ (ap (λ ys. ys ++ inner) s ∙ append_assoc front (mark ∷ []) inner)

  inner_deeper : (xs : List Token) (t : Token) → InnerDeep xs t → IsExcessBehind OpensInner X xs t
  inner_deeper xs t (one_deep d) = record { front = d.opened ∷ []; inner = d.inner; split = d.split; opens = inner_last [] d.opened refl d.opens (left_out refl); excess = d.deep }
  inner_deeper xs t (other_deep (ThenDeep.in_first d)) = record { front = []; inner = xs; split = refl; opens = inner_first refl; excess = d }
  inner_deeper xs t (other_deep (ThenDeep.in_second front back a e w (one_deep d))) =
      record { front = front ++ (d.opened ∷ []); inner = d.inner; split = at_mark xs front back d.opened d.inner e d.split; opens = inner_count front d.opened refl d.opens w; excess = d.deep }
  inner_deeper xs t (other_deep (ThenDeep.in_second front back a e w (other_deep (one_deep d)))) =
      record { front = front ++ (d.opened ∷ []); inner = d.inner; split = at_mark xs front back d.opened d.inner e d.split; opens = inner_last front d.opened refl d.opens (given w); excess = d.deep }
  inner_deeper xs t (other_deep (ThenDeep.in_second front back a e w (other_deep (other_deep d)))) = nowhere back t d

  inner_upper_by : (xs before inner : List Token) (t : Token) → xs ≡ before ++ inner → X inner t → OpensInner before → InnerDeep xs t
  inner_upper_by xs before inner t e d (inner_first none) = other_deep (ThenDeep.in_first (subst (λ ys. X ys t) (sym (e ∙ ap (λ ys. ys ++ inner) none)) d))
  inner_upper_by xs before inner t e d (inner_count {first = a} front mark s m w) =
      other_deep (ThenDeep.in_second front (mark ∷ inner) a (mark_at xs before inner front mark e s) w (one_deep (record { opened = mark; inner = inner; split = refl; opens = m; deep = d })))
  inner_upper_by xs before inner t e d (inner_last front mark s m (left_out none)) =
      one_deep (record { opened = mark; inner = inner; split = mark_at xs before inner front mark e s ∙ ap (λ ys. ys ++ (mark ∷ inner)) none; opens = m; deep = d })
  inner_upper_by xs before inner t e d (inner_last front mark s m (given {e = a} w)) =
      other_deep (ThenDeep.in_second front (mark ∷ inner) a (mark_at xs before inner front mark e s) w (other_deep (one_deep (record { opened = mark; inner = inner; split = refl; opens = m; deep = d }))))

  inner_upper : (xs : List Token) (t : Token) → IsExcessBehind OpensInner X xs t → InnerDeep xs t
  inner_upper xs t w = inner_upper_by xs w.front w.inner t w.split w.excess w.opens

  begins_no_colon : (t : Token) → begins_expression t ≡ true → has (symbol_at (codes ":")) t ≡ false
  unfolding prefix_of
  begins_no_colon t e = not_symbol begins_expression (codes ":") (λ line. refl) t e

  exact_inner : Exact (read_inner expression) IsInner (IsExcessBehind OpensInner X) inner_goes
  unfolding read_inner
  exact_inner = exact_as inner_into inner_back inner_deeper inner_upper
      (exact_or (has (symbol_at (codes ":"))) begins_expression (exact_span None) (begun_span None) exact_placed begun_placed begins_no_colon)

  inner_viable : Viable IsInner []
  inner_viable = record { more = whole_viable.more; value = inner_forms.Element whole_viable.value; member = element whole_viable.member }

  abbrev section_goes : Token → Bool
  section_goes = has (symbol_at (codes "["))

  exact_name : Exact (read_one name_at) (One name_at) Nowhere never
  exact_name = exact_one name_at (record { what = kinds.Name []; line = 0 }) (record { name = []; line = 0 }) refl never

  name_viable : Viable (One name_at) []
  name_viable = record { more = record { what = kinds.Name []; line = 0 } ∷ []; value = record { name = []; line = 0 }; member = record { token = record { what = kinds.Name []; line = 0 }; only = refl; passes = refl } }

  abbrev Pointed : List Token → Section → Type 0
  Pointed = Mapped pointed_section (Headed (symbol_at (codes "*")) (One name_at))

  exact_pointed : Exact read_pointed Pointed (HeadedDeep (symbol_at (codes "*")) Nowhere) never
  unfolding read_pointed
  exact_pointed = exact_mapped pointed_section (exact_headed (symbol_at (codes "*")) exact_name (record { what = kinds.Symbol (codes "*"); line = 0 }) 0 refl name_viable)

  begun_pointed : Begun read_pointed (has (symbol_at (codes "*")))
  unfolding read_pointed
  begun_pointed = begun_mapped pointed_section (begun_headed (symbol_at (codes "*")) exact_name)

  abbrev Shaped : List Token → Section → Type 0
  Shaped = Mapped shape_section (Headed (symbol_at (codes "[")) (Both IsWhole (Headed (symbol_at (codes "]")) (One name_at))))

  abbrev ShapedDeep : List Token → Token → Type 0
  ShapedDeep = HeadedDeep (symbol_at (codes "[")) (BothDeep X IsWhole (HeadedDeep (symbol_at (codes "]")) Nowhere))

  exact_named : Exact {A = ℕ × Named} (read_both (read_one (symbol_at (codes "]"))) (read_one name_at)) (Headed (symbol_at (codes "]")) (One name_at)) (HeadedDeep (symbol_at (codes "]")) Nowhere) never
  exact_named = exact_headed (symbol_at (codes "]")) exact_name (record { what = kinds.Symbol (codes "]"); line = 0 }) 0 refl name_viable

  named_viable : Viable (Headed (symbol_at (codes "]")) (One name_at)) []
  named_viable = record {
    more = record { what = kinds.Symbol (codes "]"); line = 0 } ∷ name_viable.more;
    value = (0, name_viable.value);
    member = record { token = record { what = kinds.Symbol (codes "]"); line = 0 }; back = name_viable.more; split = refl; passes = refl; behind = name_viable.member };
  }

  begun_named : Begun {A = ℕ × Named} (read_both (read_one (symbol_at (codes "]"))) (read_one name_at)) (has (symbol_at (codes "]")))
  begun_named = begun_headed (symbol_at (codes "]")) exact_name

  exact_counted : Exact {A = Expr × (ℕ × Named)} (read_both expression (read_both (read_one (symbol_at (codes "]"))) (read_one name_at))) (Both IsWhole (Headed (symbol_at (codes "]")) (One name_at)))
      (BothDeep X IsWhole (HeadedDeep (symbol_at (codes "]")) Nowhere)) never
  exact_counted = exact_both part_of exact_named
      (λ ys b rest w free. none_goes (has (symbol_at (codes "]"))) goes_on closed_apart (ys ++ rest) (member_begins exact_named begun_named ys b rest w))
      (λ ys t rest d. none_goes (has (symbol_at (codes "]"))) goes_on closed_apart (ys ++ (t ∷ rest)) (deep_begins exact_named begun_named ys t rest d))
      named_viable

  exact_shape : Exact (read_shape expression) Shaped ShapedDeep never
  unfolding read_shape
  exact_shape = exact_mapped shape_section (exact_headed (symbol_at (codes "[")) exact_counted (record { what = kinds.Symbol (codes "["); line = 0 }) 0 refl
      (record {
        more = whole_viable.more ++ named_viable.more;
        value = (whole_viable.value, named_viable.value);
        member = record { front = whole_viable.more; back = named_viable.more; split = refl; before = whole_viable.member; behind = named_viable.member };
      }))

  begun_shape : Begun (read_shape expression) (has (symbol_at (codes "[")))
  unfolding read_shape
  begun_shape = begun_mapped shape_section (begun_headed (symbol_at (codes "[")) exact_counted)

  closed_inner : (t : Token) → has (symbol_at (codes "]")) t ≡ true → inner_goes t ≡ false
  unfolding operator_of prefix_of
  closed_inner t e = on_symbol inner_goes (codes "]") false (λ line. refl) t (has_symbol (codes "]") t e)

  -- one dimension in its brackets
  abbrev Dimension : List Token → Inner → Type 0
  Dimension = Bracketed (codes "[") (codes "]") IsInner

  abbrev DimensionDeep : List Token → Token → Type 0
  DimensionDeep = BracketedDeep (codes "[") (IsExcessBehind OpensInner X)

  exact_dimension : Exact (read_dimension expression) Dimension DimensionDeep never
  unfolding read_dimension
  exact_dimension = exact_bracketed (codes "[") (codes "]") exact_inner inner_viable closed_inner refl refl

  begun_dimension : Begun (read_dimension expression) (has (symbol_at (codes "[")))
  unfolding read_dimension
  begun_dimension = begun_bracketed (codes "[") (codes "]") exact_inner inner_viable closed_inner refl refl

  -- behind one, another or none
  abbrev Columns : Inner → List Token → Form → Type 0
  Columns rows = Either (Mapped (form.Grid rows) Dimension) (Nothing (form_of_inner rows))

  abbrev ColumnsDeep : Inner → List Token → Token → Type 0
  ColumnsDeep rows = EitherDeep DimensionDeep Nowhere

  exact_columns : (rows : Inner) → Exact (read_columns expression rows) (Columns rows) (ColumnsDeep rows) section_goes
  unfolding read_columns
  exact_columns rows = exact_either (has (symbol_at (codes "["))) (exact_closed section_goes (exact_mapped (form.Grid rows) exact_dimension)) (begun_mapped (form.Grid rows) begun_dimension) (exact_nothing (form_of_inner rows) section_goes)
      (λ ys b rest w free. ap (λ zs. begins section_goes (zs ++ rest)) w.nothing ∙ free)
      (λ ys t rest d. nowhere ys t d)

  columns_viable : (rows : Inner) → Viable (Columns rows) []
  columns_viable rows = record { more = []; value = form_of_inner rows; member = other_way (record { nothing = refl; same = refl }) }

  abbrev Part : Named → List Token → Section → Type 0
  Part base = Mapped (part_section base) (Then Dimension Columns)

  abbrev PartDeep : List Token → Token → Type 0
  PartDeep = ThenDeep DimensionDeep Dimension ColumnsDeep

  exact_part : (base : Named) → Exact (read_part expression base) (Part base) PartDeep section_goes
  unfolding read_part
  exact_part base = exact_mapped (part_section base) (exact_then exact_dimension exact_columns (λ rows ys b rest w free. begins_never (ys ++ rest)) (λ rows ys t rest d. begins_never (ys ++ (t ∷ rest))) columns_viable)

  begun_part : (base : Named) → Begun (read_part expression base) (has (symbol_at (codes "[")))
  unfolding read_part
  begun_part base = begun_mapped (part_section base) (begun_then exact_dimension exact_columns (λ rows ys b rest w free. begins_never (ys ++ rest)) (λ rows ys t rest d. begins_never (ys ++ (t ∷ rest))) columns_viable begun_dimension)

  abbrev Based : Named → List Token → Section → Type 0
  Based base = Either (Part base) (Nothing (whole_section base))

  abbrev BasedDeep : Named → List Token → Token → Type 0
  BasedDeep base = EitherDeep PartDeep Nowhere

  exact_behind_base : (base : Named) → Exact (read_either (has (symbol_at (codes "["))) (read_part expression base) (read_nothing (whole_section base))) (Based base) (BasedDeep base) section_goes
  exact_behind_base base = exact_either (has (symbol_at (codes "["))) (exact_part base) (begun_part base) (exact_nothing (whole_section base) section_goes)
      (λ ys b rest w free. ap (λ zs. begins section_goes (zs ++ rest)) w.nothing ∙ free)
      (λ ys t rest d. nowhere ys t d)

  based_viable : (base : Named) → Viable (Based base) []
  based_viable base = record { more = []; value = whole_section base; member = other_way (record { nothing = refl; same = refl }) }

  exact_based : Exact (read_based expression) (Then (One name_at) Based) (ThenDeep Nowhere (One name_at) BasedDeep) section_goes
  unfolding read_based
  exact_based = exact_then exact_name exact_behind_base (λ base ys b rest w free. begins_never (ys ++ rest)) (λ base ys t rest d. begins_never (ys ++ (t ∷ rest))) based_viable

  begun_based : Begun (read_based expression) (has name_at)
  unfolding read_based
  begun_based = begun_then exact_name exact_behind_base (λ base ys b rest w free. begins_never (ys ++ rest)) (λ base ys t rest d. begins_never (ys ++ (t ∷ rest))) based_viable (begun_one name_at)

  abbrev Sectioned : List Token → Section → Type 0
  Sectioned = Either Pointed (Either Shaped (Either (Many part_of first) (Then (One name_at) Based)))

  abbrev SectionedDeep : List Token → Token → Type 0
  SectionedDeep = EitherDeep (HeadedDeep (symbol_at (codes "*")) Nowhere) (EitherDeep ShapedDeep (EitherDeep (ManyDeep part_of first) (ThenDeep Nowhere (One name_at) BasedDeep)))

  part_into : (xs front back : List Token) (t : Token) (base : Named) (rows : Inner) (cells : Form) → xs ≡ t ∷ (front ++ back) → NameIs t.what t.line base → Dimension front rows → Columns rows back cells
      → IsSection xs (part_section base cells)
  part_into xs front back t base rows cells e n d (one_way c) =
      let all : xs ≡ t ∷ d.opened ∷ (d.inner ++ (d.closed ∷ c.whole.opened ∷ (c.whole.inner ++ (c.whole.closed ∷ []))))
      = e ∙ ap (λ ys. t ∷ ys) (ap (λ ys. ys ++ back) d.split ∙ (closed_before d.opened d.inner d.closed back ∙ ap (λ ys. d.opened ∷ (d.inner ++ (d.closed ∷ ys))) c.whole.split)) in
      subst (λ s. IsSection xs s) (ap (λ k. record { base = base.name; form = form.Grid rows c.part; line = k; base_line = k }) (sym n.at) ∙ ap (λ f. part_section base f) c.made)
      (grid t base.name d.opened d.inner d.closed c.whole.opened c.whole.inner c.whole.closed all n.what d.opens d.closes c.whole.opens c.whole.closes d.inside c.whole.inside)
  part_into xs front back t base rows cells e n d (other_way c) =
      let all : xs ≡ t ∷ d.opened ∷ (d.inner ++ (d.closed ∷ [])) = e ∙ ap (λ ys. t ∷ ys) (ap (λ ys. front ++ ys) c.nothing ∙ (append-nil front ∙ d.split)) in
      subst (λ s. IsSection xs s) (ap (λ k. record { base = base.name; form = form_of_inner rows; line = k; base_line = k }) (sym n.at) ∙ ap (λ f. part_section base f) c.same)
      (part t base.name d.opened d.inner d.closed all n.what d.opens d.closes d.inside)

  section_into : (xs : List Token) (s : Section) → Sectioned xs s → IsSection xs s
  section_into xs s (one_way w) = let n = w.whole.behind in
      subst (λ s. IsSection xs s)
      (ap (λ k. record { base = w.part.1.name; form = form.Deref; line = k; base_line = n.token.line }) (symbol_line (codes "*") w.whole.token w.part.0 w.whole.passes)
      ∙ ap (λ k. record { base = w.part.1.name; form = form.Deref; line = w.part.0; base_line = k }) (sym (name_is n.token.what n.token.line w.part.1 n.passes).at) ∙ w.made)
      (pointed w.whole.token n.token w.part.1.name (w.whole.split ∙ ap (λ ys. w.whole.token ∷ ys) n.only) (symbol_token (codes "*") w.whole.token w.part.0 w.whole.passes) ((name_is n.token.what n.token.line w.part.1 n.passes).what))
  section_into xs s (other_way (one_way w)) = let b = w.whole.behind in let c = b.behind in let n = c.behind in
      subst (λ s. IsSection xs s)
      (ap (λ k. record { base = w.part.1.1.1.name; form = form.Shape w.part.1.0; line = k; base_line = n.token.line }) (symbol_line (codes "[") w.whole.token w.part.0 w.whole.passes)
      ∙ ap (λ k. record { base = w.part.1.1.1.name; form = form.Shape w.part.1.0; line = w.part.0; base_line = k }) (sym (name_is n.token.what n.token.line w.part.1.1.1 n.passes).at) ∙ w.made)
      (shape w.whole.token b.front c.token n.token w.part.1.1.1.name
      (w.whole.split ∙ ap (λ ys. w.whole.token ∷ ys) (b.split ∙ ap (λ ys. b.front ++ ys) (c.split ∙ ap (λ ys. c.token ∷ ys) n.only)))
      (symbol_token (codes "[") w.whole.token w.part.0 w.whole.passes) (symbol_token (codes "]") c.token w.part.1.1.0 c.passes) ((name_is n.token.what n.token.line w.part.1.1.1 n.passes).what) b.before)
  section_into xs s (other_way (other_way (one_way w))) = many_into part_of first xs s w
  section_into xs s (other_way (other_way (other_way w))) = based_into xs w.front w.back w.value s w.split w.before w.behind where
    based_into : (xs front back : List Token) (base : Named) (s : Section) → xs ≡ front ++ back → One name_at front base → Based base back s → IsSection xs s
    based_into xs front back base s e n (one_way w) =
        subst (λ s. IsSection xs s) w.made (part_into xs w.whole.front w.whole.back n.token base w.whole.value w.part (e ∙ (ap (λ ys. ys ++ back) n.only ∙ ap (λ ys. n.token ∷ ys) w.whole.split)) (name_is n.token.what n.token.line base n.passes) w.whole.before w.whole.behind)
    based_into xs front back base s e n (other_way w) =
        subst (λ s. IsSection xs s) (ap (λ k. record { base = base.name; form = form.Whole; line = k; base_line = k }) (sym (name_is n.token.what n.token.line base n.passes).at) ∙ w.same)
        (whole n.token base.name (e ∙ (ap (λ ys. ys ++ back) n.only ∙ ap (λ ys. n.token ∷ ys) w.nothing)) ((name_is n.token.what n.token.line base n.passes).what))

  one_name : (t : Token) (base : List ℕ) → t.what ≡ kinds.Name base → One name_at (t ∷ []) (record { name = base; line = t.line })
  one_name t base n = record { token = t; only = refl; passes = name_value t base n }

  dimension_of : (opened : Token) (inner : List Token) (closed : Token) (cells : Inner) → IsIndexOpen opened → IsIndexClose closed → IsInner inner cells → Dimension (opened ∷ (inner ++ (closed ∷ []))) cells
  dimension_of opened inner closed cells o m w = record { opened = opened; inner = inner; closed = closed; split = refl; opens = o; closes = m; inside = w }

  section_back : (xs : List Token) (s : Section) → IsSection xs s → Sectioned xs s
  section_back xs s (whole t base e n) = other_way (other_way (other_way (record {
    front = t ∷ [];
    back = [];
    value = record { name = base; line = t.line };
    split = e;
    before = one_name t base n;
    behind = other_way (record { nothing = refl; same = refl });
  })))
  section_back xs s (pointed star t base e m n) = one_way (record {
    part = (star.line, record { name = base; line = t.line });
    made = refl;
    whole = record { token = star; back = t ∷ []; split = e; passes = symbol_value (codes "*") star m; behind = one_name t base n };
  })
  section_back xs s (shape {count = c} opened inner closed t base e o m n w) = other_way (one_way (record {
    part = (opened.line, (c, (closed.line, record { name = base; line = t.line })));
    made = refl;
    whole = record {
      token = opened;
      back = inner ++ (closed ∷ t ∷ []);
      split = e;
      passes = symbol_value (codes "[") opened o;
      behind = record {
        front = inner;
        back = closed ∷ t ∷ [];
        split = refl;
        before = w;
        behind = record { token = closed; back = t ∷ []; split = refl; passes = symbol_value (codes "]") closed m; behind = one_name t base n };
      };
    };
  }))
  section_back xs s (part {cells = c} t base opened inner closed e n o m w) = other_way (other_way (other_way (record {
    front = t ∷ [];
    back = opened ∷ (inner ++ (closed ∷ []));
    value = record { name = base; line = t.line };
    split = e;
    before = one_name t base n;
    behind = one_way (record {
      part = form_of_inner c;
      made = refl;
      whole = record {
        front = opened ∷ (inner ++ (closed ∷ []));
        back = [];
        value = c;
        split = sym (append-nil (opened ∷ (inner ++ (closed ∷ []))));
        before = dimension_of opened inner closed c o m w;
        behind = other_way (record { nothing = refl; same = refl });
      };
    });
  })))
  section_back xs s (grid {rows = c} {columns = d} t base opened first closed again second ended e n o m k l w v) = other_way (other_way (other_way (record {
    front = t ∷ [];
    back = opened ∷ (first ++ (closed ∷ again ∷ (second ++ (ended ∷ []))));
    value = record { name = base; line = t.line };
    split = e;
    before = one_name t base n;
    behind = one_way (record {
      part = form.Grid c d;
      made = refl;
      whole = record {
        front = opened ∷ (first ++ (closed ∷ []));
        back = again ∷ (second ++ (ended ∷ []));
        value = c;
        split = sym (closed_before opened first closed (again ∷ (second ++ (ended ∷ []))));
        before = dimension_of opened first closed c o m w;
        behind = one_way (record { part = d; made = refl; whole = dimension_of again second ended d k l v });
      };
    });
  })))
  section_back xs s (many {e = a} {f = b} {several = v} opened t base indices mark inner closed e o n w c u m) =
      other_way (other_way (one_way (many_back part_of first xs opened t base indices mark inner closed a b v e o n w c u m)))

  part_deeper : (xs back : List Token) (t p : Token) (base : Named) → xs ≡ p ∷ back → NameIs p.what p.line base → PartDeep back t → IsExcessBehind OpensSection X xs t
  part_deeper xs back t p base e n (ThenDeep.in_first d) = let x = d.deep in record {
    front = p ∷ d.opened ∷ x.front;
    inner = x.inner;
    split = e ∙ ap (λ ys. p ∷ ys) (d.split ∙ ap (λ ys. d.opened ∷ ys) x.split);
    opens = section_part p base.name d.opened x.front refl n.what d.opens x.opens;
    excess = x.excess;
  }
  part_deeper xs back t p base e n (ThenDeep.in_second first rest rows s w (one_deep d)) = let x = d.deep in record {
    front = p ∷ w.opened ∷ (w.inner ++ (w.closed ∷ d.opened ∷ x.front));
    inner = x.inner;
    split = e ∙ ap (λ ys. p ∷ ys)
        (s ∙ (ap (λ ys. ys ++ rest) w.split ∙ (closed_before w.opened w.inner w.closed rest
        ∙ ap (λ ys. w.opened ∷ ys) (ap (λ ys. w.inner ++ (w.closed ∷ ys)) (d.split ∙ ap (λ ys. d.opened ∷ ys) x.split) ∙ sym (append_assoc w.inner (w.closed ∷ d.opened ∷ x.front) x.inner)))));
    opens = section_columns p base.name w.opened w.inner w.closed d.opened x.front refl n.what w.opens w.inside w.closes d.opens x.opens;
    excess = x.excess;
  }
  part_deeper xs back t p base e n (ThenDeep.in_second first rest rows s w (other_deep d)) = nowhere rest t d

  section_deeper : (xs : List Token) (t : Token) → SectionedDeep xs t → IsExcessBehind OpensSection X xs t
  section_deeper xs t (one_deep d) = nowhere d.back t d.deep
  section_deeper xs t (other_deep (one_deep d)) = shape_deeper d.back d.deep d.split where
    shape_deeper : (back : List Token) → BothDeep X IsWhole (HeadedDeep (symbol_at (codes "]")) Nowhere) back t → xs ≡ d.token ∷ back → IsExcessBehind OpensSection X xs t
    shape_deeper back (ThenDeep.in_first x) e = record { front = d.token ∷ []; inner = back; split = e; opens = section_shape d.token refl (symbol_token (codes "[") d.token d.value d.passes); excess = x }
    shape_deeper back (ThenDeep.in_second front left a s w h) e = nowhere h.back t h.deep
  section_deeper xs t (other_deep (other_deep (one_deep d))) = many_deeper part_of first xs t d
  section_deeper xs t (other_deep (other_deep (other_deep (ThenDeep.in_first d)))) = nowhere xs t d
  section_deeper xs t (other_deep (other_deep (other_deep (ThenDeep.in_second front back base e n (one_deep d))))) = part_deeper xs back t n.token base (e ∙ ap (λ ys. ys ++ back) n.only) (name_is n.token.what n.token.line base n.passes) d
  section_deeper xs t (other_deep (other_deep (other_deep (ThenDeep.in_second front back base e n (other_deep d))))) = nowhere back t d

  section_upper_by : (xs before inner : List Token) (t : Token) → xs ≡ before ++ inner → X inner t → OpensSection before → SectionedDeep xs t
  section_upper_by xs before inner t e x (section_shape opened s o) =
      other_deep (one_deep (record { token = opened; back = inner; value = opened.line; split = e ∙ ap (λ ys. ys ++ inner) s; passes = symbol_value (codes "[") opened o; deep = ThenDeep.in_first x }))
  section_upper_by xs before inner t e x (section_part p base opened front s n o i) =
      other_deep (other_deep (other_deep (ThenDeep.in_second (p ∷ []) (opened ∷ (front ++ inner)) (record { name = base; line = p.line }) (e ∙ ap (λ ys. ys ++ inner) s) (one_name p base n)
      (one_deep (ThenDeep.in_first (record { opened = opened; inner = front ++ inner; split = refl; opens = o; deep = record { front = front; inner = inner; split = refl; opens = i; excess = x } }))))))
  section_upper_by xs before inner t e x (section_columns {rows = c} p base opened first closed again front s n o w m k i) =
      other_deep (other_deep (other_deep (ThenDeep.in_second (p ∷ []) (opened ∷ ((first ++ (closed ∷ again ∷ front)) ++ inner)) (record { name = base; line = p.line }) (e ∙ ap (λ ys. ys ++ inner) s) (one_name p base n)
      (one_deep (ThenDeep.in_second (opened ∷ (first ++ (closed ∷ []))) (again ∷ (front ++ inner)) c
      (ap (λ ys. opened ∷ ys) (append_assoc first (closed ∷ again ∷ front) inner) ∙ sym (closed_before opened first closed (again ∷ (front ++ inner)))) (dimension_of opened first closed c o m w)
      (one_deep (record { opened = again; inner = front ++ inner; split = refl; opens = k; deep = record { front = front; inner = inner; split = refl; opens = i; excess = x } })))))))
  section_upper_by xs before inner t e x (section_indices opened p base front s o n i) =
      other_deep (other_deep (one_deep (many_in_indices part_of first xs front inner t opened p base (e ∙ ap (λ ys. ys ++ inner) s) o n i x)))
  section_upper_by xs before inner t e x (section_turns {e = a} {f = b} opened p base indices mark front s o n w c i) =
      other_deep (other_deep (one_deep (many_in_turns part_of first xs indices front inner t opened p mark base a b (e ∙ ap (λ ys. ys ++ inner) s) o n w c i x)))

  section_upper : (xs : List Token) (t : Token) → IsExcessBehind OpensSection X xs t → SectionedDeep xs t
  section_upper xs t w = section_upper_by xs w.front w.inner t w.split w.excess w.opens

  name_no_brace : (t : Token) → has name_at t ≡ true → has (symbol_at (codes "{")) t ≡ false
  name_no_brace t e = not_symbol (has name_at) (codes "{") (λ line. refl) t e

  others_no_bracket : (t : Token) → one_of (has (symbol_at (codes "{"))) (has name_at) t ≡ true → has (symbol_at (codes "[")) t ≡ false
  others_no_bracket t e = not_symbol (one_of (has (symbol_at (codes "{"))) (has name_at)) (codes "[") (λ line. refl) t e

  others_no_star : (t : Token) → one_of (has (symbol_at (codes "["))) (one_of (has (symbol_at (codes "{"))) (has name_at)) t ≡ true → has (symbol_at (codes "*")) t ≡ false
  others_no_star t e = not_symbol (one_of (has (symbol_at (codes "["))) (one_of (has (symbol_at (codes "{"))) (has name_at))) (codes "*") (λ line. refl) t e

  -- a section begins with `*`, with `[`, with `{` or with a name
  abbrev pub section_starts : Token → Bool
  section_starts = one_of (has (symbol_at (codes "*"))) (one_of (has (symbol_at (codes "["))) (one_of (has (symbol_at (codes "{"))) (has name_at)))

  exact_many_or_based : Exact (read_either (has (symbol_at (codes "{"))) (read_many expression) (read_based expression)) (Either (Many part_of first) (Then (One name_at) Based))
      (EitherDeep (ManyDeep part_of first) (ThenDeep Nowhere (One name_at) BasedDeep)) section_goes
  exact_many_or_based = exact_or (has (symbol_at (codes "{"))) (has name_at) (exact_closed section_goes (exact_many part_of first)) (begun_many part_of first) exact_based begun_based name_no_brace

  begun_many_or_based : Begun (read_either (has (symbol_at (codes "{"))) (read_many expression) (read_based expression)) (one_of (has (symbol_at (codes "{"))) (has name_at))
  begun_many_or_based = begun_either (has (symbol_at (codes "{"))) (begun_many part_of first) begun_based

  exact_unpointed : Exact (read_either (has (symbol_at (codes "["))) (read_shape expression) (read_either (has (symbol_at (codes "{"))) (read_many expression) (read_based expression)))
      (Either Shaped (Either (Many part_of first) (Then (One name_at) Based))) (EitherDeep ShapedDeep (EitherDeep (ManyDeep part_of first) (ThenDeep Nowhere (One name_at) BasedDeep))) section_goes
  exact_unpointed = exact_or (has (symbol_at (codes "["))) (one_of (has (symbol_at (codes "{"))) (has name_at)) (exact_closed section_goes exact_shape) begun_shape exact_many_or_based begun_many_or_based others_no_bracket

  begun_unpointed : Begun (read_either (has (symbol_at (codes "["))) (read_shape expression) (read_either (has (symbol_at (codes "{"))) (read_many expression) (read_based expression)))
      (one_of (has (symbol_at (codes "["))) (one_of (has (symbol_at (codes "{"))) (has name_at)))
  begun_unpointed = begun_either (has (symbol_at (codes "["))) begun_shape begun_many_or_based

  pub exact_section : Exact (read_section expression) IsSection (IsExcessBehind OpensSection X) (has (symbol_at (codes "[")))
  unfolding read_section
  exact_section = exact_as section_into section_back section_deeper section_upper
      (exact_or (has (symbol_at (codes "*"))) (one_of (has (symbol_at (codes "["))) (one_of (has (symbol_at (codes "{"))) (has name_at))) (exact_closed section_goes exact_pointed) begun_pointed exact_unpointed begun_unpointed others_no_star)

  pub begun_section : Begun (read_section expression) (one_of (has (symbol_at (codes "*"))) (one_of (has (symbol_at (codes "["))) (one_of (has (symbol_at (codes "{"))) (has name_at))))
  unfolding read_section
  begun_section = begun_either (has (symbol_at (codes "*"))) begun_pointed begun_unpointed

  -- lists of sections
  comma_apart : (t : Token) → has (symbol_at (codes ",")) t ≡ true → has (symbol_at (codes "[")) t ≡ false
  comma_apart t e = on_symbol (has (symbol_at (codes "["))) (codes ",") false (λ line. refl) t (has_symbol (codes ",") t e)

  sections_into : (xs : List Token) (vs : List Section) → Listed IsSection xs vs → IsSections xs vs
  sections_into xs vs (last_part w) = last_section w
  sections_into xs vs (next_part {more = more} front comma back e c w r) = next_section front comma back e c w (sections_into back more r)

  sections_back : (xs : List Token) (vs : List Section) → IsSections xs vs → Listed IsSection xs vs
  sections_back xs vs (last_section w) = last_part w
  sections_back xs vs (next_section {more = more} front comma back e c w r) = next_part front comma back e c w (sections_back back more r)

  sections_deeper : (xs : List Token) (t : Token) → ListedDeep IsSection (IsExcessBehind OpensSection X) xs t → IsExcessBehind OpensSections X xs t
  sections_deeper xs t (deep_first d) = record { front = d.front; inner = d.inner; split = d.split; opens = sections_first d.opens; excess = d.excess }
  sections_deeper xs t (deep_later a front comma back e w c d) = let x = sections_deeper back t d in record {
    front = front ++ (comma ∷ x.front);
    inner = x.inner;
    split = e ∙ (ap (λ ys. front ++ (comma ∷ ys)) x.split ∙ sym (append_assoc front (comma ∷ x.front) x.inner));
    opens = sections_later front comma x.front refl w c x.opens;
    excess = x.excess;
  }

  sections_upper_by : (before inner : List Token) (t : Token) → X inner t → OpensSections before → ListedDeep IsSection (IsExcessBehind OpensSection X) (before ++ inner) t
  sections_upper_by before inner t x (sections_first o) = deep_first (record { front = before; inner = inner; split = refl; opens = o; excess = x })
  sections_upper_by before inner t x (sections_later {s = a} front comma back e w c o) =
      deep_later a front comma (back ++ inner) (ap (λ ys. ys ++ inner) e ∙ append_assoc front (comma ∷ back) inner) w c (sections_upper_by back inner t x o)

  sections_upper : (xs : List Token) (t : Token) → IsExcessBehind OpensSections X xs t → ListedDeep IsSection (IsExcessBehind OpensSection X) xs t
  sections_upper xs t w = subst (λ ys. ListedDeep IsSection (IsExcessBehind OpensSection X) ys t) (sym w.split) (sections_upper_by w.front w.inner t w.excess w.opens)

  pub exact_sections : Exact (read_sections expression) IsSections (IsExcessBehind OpensSections X) (one_of (has (symbol_at (codes ","))) (has (symbol_at (codes "["))))
  unfolding read_sections
  exact_sections = exact_as sections_into sections_back sections_deeper sections_upper (exact_list exact_section begun_section comma_apart)

  pub begun_sections : Begun (read_sections expression) (one_of (has (symbol_at (codes "*"))) (one_of (has (symbol_at (codes "["))) (one_of (has (symbol_at (codes "{"))) (has name_at))))
  unfolding read_sections
  begun_sections = begun_list exact_section begun_section comma_apart

pub sections_viable : Viable IsSections []
sections_viable = record {
  more = record { what = kinds.Name []; line = 0 } ∷ [];
  value = record { base = []; form = form.Whole; line = 0; base_line = 0 } ∷ [];
  member = last_section (whole (record { what = kinds.Name []; line = 0 }) [] refl refl);
}
