-- The reader of multidependencies is exact for each exact reader of expressions.
use Rattle.std.proofs.Common.{◌≡◌, ℕ, Bool, true, false, List, [], ◌∷◌, ◌++◌, refl, sym, ap, ◌∙◌, subst, append_assoc, Option, Some, None}
use Rattle.std.specs.Prelude.{codes}
use Rattle.std.proofs.lemmas.List.{append-nil}
use Rattle.oss_syntax.specs.declared.token.Token.{Token}
use Rattle.oss_syntax.specs.declared.token.TokenKind.TheVariants as kinds
use Rattle.oss_syntax.specs.declared.tree.expr.Expr.{Expr}
use Rattle.oss_syntax.specs.declared.tree.expr.ExprKind.TheVariants as exprs
use Rattle.oss_syntax.specs.declared.tree.pragma.Form.TheVariants as form
use Rattle.oss_syntax.specs.declared.tree.pragma.Section.{Section}
use Rattle.oss_syntax.specs.declared.tree.pragma.Turns.{Turns}
use Rattle.oss_grammar.specs.Expressions.{IsWhole, operator_of}
use Rattle.oss_grammar.specs.Expressions.IsExpr.{number, tighter}
use Rattle.oss_grammar.specs.Fronts.{Viable}
use Rattle.oss_grammar.specs.Grammar.{Both, Mapped, Either}
use Rattle.oss_grammar.specs.Grammar.Either.{one_way, other_way}
use Rattle.oss_grammar.specs.Levels.{IsExcessBehind, OpensIndices, OpensTurns, OpensSection}
use Rattle.oss_grammar.specs.Levels.OpensIndices.{first_index, second_index}
use Rattle.oss_grammar.specs.Levels.OpensTurns.{turns_first, turns_count}
use Rattle.oss_grammar.specs.Levels.OpensSection.{section_indices, section_turns}
use Rattle.oss_grammar.specs.OneToken.{IsSymbol, IsComma, IsIndexOpen, IsIndexClose}
use Rattle.oss_grammar.specs.Pragmas.{IsIndices, IsTurns, IsSection, counter}
use Rattle.oss_grammar.specs.Pragmas.IsIndices.{one_index, two_indices}
use Rattle.oss_grammar.specs.Pragmas.IsTurns.{turns}
use Rattle.oss_grammar.specs.Pragmas.IsSection.{many}
use Rattle.oss_grammar.specs.Reading.{Reader, begins, has, never, read_one, read_mapped, read_nothing, read_both, read_either}
use Rattle.oss_grammar.proofs.Parts.{Exact, Begun, exact_as, member_begins, deep_begins}
use Rattle.oss_grammar.proofs.PartLemmas.{Nowhere, nowhere, Nothing, exact_nothing, exact_mapped, begun_mapped, Then, ThenDeep, exact_then, EitherDeep, exact_either}
use Rattle.oss_grammar.proofs.PartLemmas.EitherDeep.{one_deep, other_deep}
use Rattle.oss_grammar.proofs.StepLemmas.{none_goes}
use Rattle.oss_expressions.specs.ExpressionReading.{read_index}
use Rattle.oss_expressions.specs.TokenValues.{symbol_at, name_at, begins_expression}
use Rattle.oss_expressions.specs.declared.cursor.Named.{Named}
use Rattle.oss_expressions.proofs.ExactPairs.{BothDeep, exact_both, Headed, HeadedDeep, exact_headed, begun_headed, Bracketed, BracketedDeep, exact_bracketed, begun_bracketed, bracketed_viable, read_behind, Behind, exact_behind, begun_behind, symbol_line}
use Rattle.oss_expressions.proofs.PrimaryLemmas.{NameIs, name_is, name_value}
use Rattle.oss_expressions.proofs.TokenLemmas.{begins_never, exact_closed, symbol_token, symbol_value, goes_on, on_symbol, has_symbol}
use Rattle.oss_pragma.specs.PragmaReading.{read_indices, read_bounds, read_turns, read_closed_turns, read_many, turns_of, many_section, with_second}

-- there is an expression
zero_is : IsWhole (record { what = kinds.Number 0 false; line = 0 } ∷ []) (record { what = exprs.Number 0 false; line = 0 })
zero_is = tighter (tighter (tighter (tighter (tighter (tighter (tighter (tighter (tighter (tighter (tighter (tighter (number (record { what = kinds.Number 0 false; line = 0 }) 0 false refl refl))))))))))))

pub whole_viable : Viable IsWhole []
whole_viable = record { more = record { what = kinds.Number 0 false; line = 0 } ∷ []; value = record { what = exprs.Number 0 false; line = 0 }; member = zero_is }

-- no expression goes on with these
pub semicolon_apart : (t : Token) → has (symbol_at (codes ";")) t ≡ true → goes_on t ≡ false
unfolding operator_of
semicolon_apart t e = on_symbol goes_on (codes ";") false (λ line. refl) t (has_symbol (codes ";") t e)

pub closed_apart : (t : Token) → has (symbol_at (codes "]")) t ≡ true → goes_on t ≡ false
unfolding operator_of
closed_apart t e = on_symbol goes_on (codes "]") false (λ line. refl) t (has_symbol (codes "]") t e)

brace_apart : (t : Token) → has (symbol_at (codes "}")) t ≡ true → goes_on t ≡ false
unfolding operator_of
brace_apart t e = on_symbol goes_on (codes "}") false (λ line. refl) t (has_symbol (codes "}") t e)

comma_no_index : (t : Token) → has (symbol_at (codes ",")) t ≡ true → has (symbol_at (codes "[")) t ≡ false
comma_no_index t e = on_symbol (has (symbol_at (codes "["))) (codes ",") false (λ line. refl) t (has_symbol (codes ",") t e)

-- what closes one part may be followed by what opens another
pub closed_before : (opened : Token) (inner : List Token) (closed : Token) (rest : List Token) → (opened ∷ (inner ++ (closed ∷ []))) ++ rest ≡ opened ∷ (inner ++ (closed ∷ rest))
closed_before opened inner closed rest = ap (λ ys. opened ∷ ys) (append_assoc inner (closed ∷ []) rest)

abbrev only_first : Expr → Expr × Option Expr
only_first e = (e, None)

abbrev both_indices : Expr → Option Expr → Expr × Option Expr
both_indices e f = (e, f)

-- indices as one value
abbrev Indices : List Token → Expr × Option Expr → Type 0
Indices xs p = IsIndices xs p.0 p.1

abbrev turned_at : Named → Expr × Expr → ℕ → Turns
turned_at named p line = record { variable = counter named.name p.0 line; count = p.1 }

abbrev many_at : Named × ((Expr × Option Expr) × Turns) → ℕ → ℕ → Section
many_at p line base_line = record { base = p.0.name; form = form.Many p.1.0.0 p.1.0.1 p.1.1; line = line; base_line = base_line }

module _ {expression : Reader Expr} {X : List Token → Token → Type 0} (part_of : Exact expression IsWhole X goes_on) (first : Begun expression begins_expression) where
  -- one index in its brackets
  abbrev Index : List Token → Expr → Type 0
  Index = Bracketed (codes "[") (codes "]") IsWhole

  abbrev IndexDeep : List Token → Token → Type 0
  IndexDeep = BracketedDeep (codes "[") X

  exact_index : Exact (read_index expression) Index IndexDeep never
  unfolding read_index
  exact_index = exact_bracketed (codes "[") (codes "]") part_of whole_viable closed_apart refl refl

  begun_index : Begun (read_index expression) (has (symbol_at (codes "[")))
  unfolding read_index
  begun_index = begun_bracketed (codes "[") (codes "]") part_of whole_viable closed_apart refl refl

  -- behind one, another or none
  abbrev Second : Expr → List Token → Expr × Option Expr → Type 0
  Second e = Either (Mapped (with_second e) Index) (Nothing (only_first e))

  abbrev SecondDeep : Expr → List Token → Token → Type 0
  SecondDeep e = EitherDeep IndexDeep Nowhere

  abbrev index_goes : Token → Bool
  index_goes = has (symbol_at (codes "["))

  exact_second : (e : Expr) → Exact (read_either (has (symbol_at (codes "["))) (read_mapped (with_second e) (read_index expression)) (read_nothing (only_first e))) (Second e) (SecondDeep e) index_goes
  exact_second e = exact_either (has (symbol_at (codes "["))) (exact_closed index_goes (exact_mapped (with_second e) exact_index)) (begun_mapped (with_second e) begun_index) (exact_nothing (only_first e) index_goes)
      (λ ys b rest w free. ap (λ zs. begins index_goes (zs ++ rest)) w.nothing ∙ free)
      (λ ys t rest d. nowhere ys t d)

  second_viable : (e : Expr) → Viable (Second e) []
  second_viable e = record { more = []; value = only_first e; member = other_way (record { nothing = refl; same = refl }) }

  exact_placed : Exact (read_indices expression) (Then Index Second) (ThenDeep IndexDeep Index SecondDeep) index_goes
  unfolding read_indices
  exact_placed = exact_then exact_index exact_second (λ e ys b rest w free. begins_never (ys ++ rest)) (λ e ys t rest d. begins_never (ys ++ (t ∷ rest))) second_viable

  index_of : (opened : Token) (inner : List Token) (closed : Token) (e : Expr) → IsIndexOpen opened → IsIndexClose closed → IsWhole inner e → Index (opened ∷ (inner ++ (closed ∷ []))) e
  index_of opened inner closed e o m w = record { opened = opened; inner = inner; closed = closed; split = refl; opens = o; closes = m; inside = w }

  indices_by : (xs front back : List Token) (e : Expr) (p : Expr × Option Expr) → xs ≡ front ++ back → Index front e → Second e back p → Indices xs p
  indices_by xs front back e p s d (one_way c) =
      let all : xs ≡ d.opened ∷ (d.inner ++ (d.closed ∷ c.whole.opened ∷ (c.whole.inner ++ (c.whole.closed ∷ []))))
      = s ∙ (ap (λ ys. ys ++ back) d.split ∙ (closed_before d.opened d.inner d.closed back ∙ ap (λ ys. d.opened ∷ (d.inner ++ (d.closed ∷ ys))) c.whole.split)) in
      subst (λ q. Indices xs q) c.made (two_indices d.opened d.inner d.closed c.whole.opened c.whole.inner c.whole.closed all d.opens d.closes c.whole.opens c.whole.closes d.inside c.whole.inside)
  indices_by xs front back e p s d (other_way c) =
      let all : xs ≡ d.opened ∷ (d.inner ++ (d.closed ∷ [])) = s ∙ (ap (λ ys. front ++ ys) c.nothing ∙ (append-nil front ∙ d.split)) in
      subst (λ q. Indices xs q) c.same (one_index d.opened d.inner d.closed all d.opens d.closes d.inside)

  indices_into : (xs : List Token) (p : Expr × Option Expr) → Then Index Second xs p → Indices xs p
  indices_into xs p w = indices_by xs w.front w.back w.value p w.split w.before w.behind

  indices_back_by : (xs : List Token) (e : Expr) (f : Option Expr) → IsIndices xs e f → Then Index Second xs (both_indices e f)
  indices_back_by xs e None (one_index opened inner closed s o m w) = record {
    front = opened ∷ (inner ++ (closed ∷ []));
    back = [];
    value = e;
    split = s ∙ sym (append-nil (opened ∷ (inner ++ (closed ∷ []))));
    before = index_of opened inner closed e o m w;
    behind = other_way (record { nothing = refl; same = refl });
  }
  indices_back_by xs e (Some f) (two_indices opened front closed again second ended s o m k l w v) = record {
    front = opened ∷ (front ++ (closed ∷ []));
    back = again ∷ (second ++ (ended ∷ []));
    value = e;
    split = s ∙ sym (closed_before opened front closed (again ∷ (second ++ (ended ∷ []))));
    before = index_of opened front closed e o m w;
    behind = one_way (record { part = f; made = refl; whole = index_of again second ended f k l v });
  }

  indices_back : (xs : List Token) (p : Expr × Option Expr) → Indices xs p → Then Index Second xs p
  indices_back xs p w = indices_back_by xs p.0 p.1 w

  indices_deeper : (xs : List Token) (t : Token) → ThenDeep IndexDeep Index SecondDeep xs t → IsExcessBehind OpensIndices X xs t
  indices_deeper xs t (ThenDeep.in_first d) = record { front = d.opened ∷ []; inner = d.inner; split = d.split; opens = first_index d.opened refl d.opens; excess = d.deep }
  indices_deeper xs t (ThenDeep.in_second front back e s w (one_deep d)) = record {
    front = w.opened ∷ (w.inner ++ (w.closed ∷ d.opened ∷ []));
    inner = d.inner;
    split = s ∙ (ap (λ ys. ys ++ back) w.split ∙ (closed_before w.opened w.inner w.closed back
        ∙ ap (λ ys. w.opened ∷ ys) (ap (λ ys. w.inner ++ (w.closed ∷ ys)) d.split ∙ sym (append_assoc w.inner (w.closed ∷ d.opened ∷ []) d.inner))));
    opens = second_index w.opened w.inner w.closed d.opened refl w.opens w.inside w.closes d.opens;
    excess = d.deep;
  }
  indices_deeper xs t (ThenDeep.in_second front back e s w (other_deep d)) = nowhere back t d

  indices_upper_by : (xs before inner : List Token) (t : Token) → xs ≡ before ++ inner → X inner t → OpensIndices before → ThenDeep IndexDeep Index SecondDeep xs t
  indices_upper_by xs before inner t e x (first_index opened b o) = ThenDeep.in_first (record { opened = opened; inner = inner; split = e ∙ ap (λ ys. ys ++ inner) b; opens = o; deep = x })
  indices_upper_by xs before inner t e x (second_index {e = v} opened front closed again b o w m k) =
      ThenDeep.in_second (opened ∷ (front ++ (closed ∷ []))) (again ∷ inner) v
      (e ∙ (ap (λ ys. ys ++ inner) b ∙ (ap (λ ys. opened ∷ ys) (append_assoc front (closed ∷ again ∷ []) inner) ∙ sym (closed_before opened front closed (again ∷ inner)))))
      (index_of opened front closed v o m w) (one_deep (record { opened = again; inner = inner; split = refl; opens = k; deep = x }))

  indices_upper : (xs : List Token) (t : Token) → IsExcessBehind OpensIndices X xs t → ThenDeep IndexDeep Index SecondDeep xs t
  indices_upper xs t w = indices_upper_by xs w.front w.inner t w.split w.excess w.opens

  exact_indices : Exact (read_indices expression) Indices (IsExcessBehind OpensIndices X) index_goes
  exact_indices = exact_as indices_into indices_back indices_deeper indices_upper exact_placed

  -- the first value and the number of turns
  abbrev Bounds : List Token → Expr × Expr → Type 0
  Bounds = Behind (codes "=") (Both IsWhole (Behind (codes ";") IsWhole))

  abbrev PairDeep : List Token → Token → Type 0
  PairDeep = BothDeep X IsWhole (BracketedDeep (codes ";") X)

  abbrev BoundsDeep : List Token → Token → Type 0
  BoundsDeep = BracketedDeep (codes "=") PairDeep

  exact_count : Exact (read_behind (codes ";") expression) (Behind (codes ";") IsWhole) (BracketedDeep (codes ";") X) goes_on
  exact_count = exact_behind (codes ";") part_of whole_viable refl

  begun_count : Begun (read_behind (codes ";") expression) (has (symbol_at (codes ";")))
  begun_count = begun_behind (codes ";") part_of whole_viable refl

  count_viable : Viable (Behind (codes ";") IsWhole) []
  count_viable = record {
    more = record { what = kinds.Symbol (codes ";"); line = 0 } ∷ whole_viable.more;
    value = whole_viable.value;
    member = record { mark = record { what = kinds.Symbol (codes ";"); line = 0 }; back = whole_viable.more; split = refl; marks = refl; behind = whole_viable.member };
  }

  exact_pair : Exact {A = Expr × Expr} (read_both expression (read_behind (codes ";") expression)) (Both IsWhole (Behind (codes ";") IsWhole)) PairDeep goes_on
  exact_pair = exact_both part_of exact_count
      (λ ys b rest w free. none_goes (has (symbol_at (codes ";"))) goes_on semicolon_apart (ys ++ rest) (member_begins exact_count begun_count ys b rest w))
      (λ ys t rest d. none_goes (has (symbol_at (codes ";"))) goes_on semicolon_apart (ys ++ (t ∷ rest)) (deep_begins exact_count begun_count ys t rest d))
      count_viable

  pair_viable : Viable {A = Expr × Expr} (Both IsWhole (Behind (codes ";") IsWhole)) []
  pair_viable = record {
    more = whole_viable.more ++ count_viable.more;
    value = (whole_viable.value, count_viable.value);
    member = record { front = whole_viable.more; back = count_viable.more; split = refl; before = whole_viable.member; behind = count_viable.member };
  }

  exact_bounds : Exact (read_bounds expression) Bounds BoundsDeep goes_on
  unfolding read_bounds
  exact_bounds = exact_behind (codes "=") exact_pair pair_viable refl

  bounds_viable : Viable Bounds []
  bounds_viable = record {
    more = record { what = kinds.Symbol (codes "="); line = 0 } ∷ pair_viable.more;
    value = pair_viable.value;
    member = record { mark = record { what = kinds.Symbol (codes "="); line = 0 }; back = pair_viable.more; split = refl; marks = refl; behind = pair_viable.member };
  }

  -- the turns
  abbrev Turned : List Token → Turns → Type 0
  Turned = Mapped turns_of (Headed name_at Bounds)

  abbrev TurnedDeep : List Token → Token → Type 0
  TurnedDeep = HeadedDeep name_at BoundsDeep

  exact_turned : Exact (read_turns expression) Turned TurnedDeep goes_on
  unfolding read_turns
  exact_turned = exact_mapped turns_of (exact_headed name_at exact_bounds (record { what = kinds.Name []; line = 0 }) (record { name = []; line = 0 }) refl bounds_viable)

  turned_viable : Viable Turned []
  turned_viable = let b = bounds_viable in record {
    more = record { what = kinds.Name []; line = 0 } ∷ b.more;
    value = turns_of (record { name = []; line = 0 }, b.value);
    member = record {
      part = (record { name = []; line = 0 }, b.value);
      made = refl;
      whole = record { token = record { what = kinds.Name []; line = 0 }; back = b.more; split = refl; passes = refl; behind = b.member };
    };
  }

  turns_into : (xs : List Token) (v : Turns) → Turned xs v → IsTurns xs v
  turns_into xs v w = let h = w.whole in let b = h.behind in let p = b.behind in let c = p.behind in
      let n = name_is h.token.what h.token.line w.part.0 h.passes in
      subst (λ z. IsTurns xs z) (ap (turned_at w.part.0 w.part.1) (sym n.at) ∙ w.made)
      (turns h.token b.mark w.part.0.name p.front c.mark c.back
      (h.split ∙ ap (λ ys. h.token ∷ ys) (b.split ∙ ap (λ ys. b.mark ∷ ys) (p.split ∙ ap (λ ys. p.front ++ ys) c.split))) n.what b.marks c.marks p.before c.behind)

  turns_back : (xs : List Token) (v : Turns) → IsTurns xs v → Turned xs v
  turns_back xs v (turns {first = a} {count = b} t set word front mark back s n k m w u) = record {
    part = (record { name = word; line = t.line }, (a, b));
    made = refl;
    whole = record {
      token = t;
      back = set ∷ (front ++ (mark ∷ back));
      split = s;
      passes = name_value t word n;
      behind = record {
        mark = set;
        back = front ++ (mark ∷ back);
        split = refl;
        marks = k;
        behind = record { front = front; back = mark ∷ back; split = refl; before = w; behind = record { mark = mark; back = back; split = refl; marks = m; behind = u } };
      };
    };
  }

  turns_place : (xs inner : List Token) (t p set : Token) (named : Named) → xs ≡ p ∷ set ∷ inner → NameIs p.what p.line named → IsSymbol (codes "=") set → PairDeep inner t → IsExcessBehind OpensTurns X xs t
  turns_place xs inner t p set named e n s (ThenDeep.in_first x) = record { front = p ∷ set ∷ []; inner = inner; split = e; opens = turns_first p set named.name refl n.what s; excess = x }
  turns_place xs inner t p set named e n s (ThenDeep.in_second front back a b w d) = record {
    front = p ∷ set ∷ (front ++ (d.opened ∷ []));
    inner = d.inner;
    split = e ∙ ap (λ ys. p ∷ set ∷ ys) (b ∙ (ap (λ ys. front ++ ys) d.split ∙ sym (append_assoc front (d.opened ∷ []) d.inner)));
    opens = turns_count p set named.name front d.opened refl n.what s w d.opens;
    excess = d.deep;
  }

  turns_deeper : (xs : List Token) (t : Token) → TurnedDeep xs t → IsExcessBehind OpensTurns X xs t
  turns_deeper xs t d = let b = d.deep in
      turns_place xs b.inner t d.token b.opened d.value (d.split ∙ ap (λ ys. d.token ∷ ys) b.split) (name_is d.token.what d.token.line d.value d.passes) b.opens b.deep

  turns_upper_by : (xs before inner : List Token) (t : Token) → xs ≡ before ++ inner → X inner t → OpensTurns before → TurnedDeep xs t
  turns_upper_by xs before inner t e x (turns_first p set word b n s) = record {
    token = p;
    back = set ∷ inner;
    value = record { name = word; line = p.line };
    split = e ∙ ap (λ ys. ys ++ inner) b;
    passes = name_value p word n;
    deep = record { opened = set; inner = inner; split = refl; opens = s; deep = ThenDeep.in_first x };
  }
  turns_upper_by xs before inner t e x (turns_count {first = a} p set word front mark b n s w m) = record {
    token = p;
    back = set ∷ ((front ++ (mark ∷ [])) ++ inner);
    value = record { name = word; line = p.line };
    split = e ∙ ap (λ ys. ys ++ inner) b;
    passes = name_value p word n;
    deep = record {
      opened = set;
      inner = (front ++ (mark ∷ [])) ++ inner;
      split = refl;
      opens = s;
      deep = ThenDeep.in_second front (mark ∷ inner) a (append_assoc front (mark ∷ []) inner) w (record { opened = mark; inner = inner; split = refl; opens = m; deep = x });
    };
  }

  turns_upper : (xs : List Token) (t : Token) → IsExcessBehind OpensTurns X xs t → TurnedDeep xs t
  turns_upper xs t w = turns_upper_by xs w.front w.inner t w.split w.excess w.opens

  exact_turns : Exact (read_turns expression) IsTurns (IsExcessBehind OpensTurns X) goes_on
  exact_turns = exact_as turns_into turns_back turns_deeper turns_upper exact_turned

  turns_viable : Viable IsTurns []
  turns_viable = record { more = turned_viable.more; value = turned_viable.value; member = turns_into turned_viable.more turned_viable.value turned_viable.member }

  -- the turns in front of the brace
  abbrev Closed : List Token → Turns → Type 0
  Closed = Bracketed (codes ",") (codes "}") IsTurns

  abbrev ClosedDeep : List Token → Token → Type 0
  ClosedDeep = BracketedDeep (codes ",") (IsExcessBehind OpensTurns X)

  exact_closed_turns : Exact (read_closed_turns expression) Closed ClosedDeep never
  unfolding read_closed_turns
  exact_closed_turns = exact_bracketed (codes ",") (codes "}") exact_turns turns_viable brace_apart refl refl

  begun_closed_turns : Begun (read_closed_turns expression) (has (symbol_at (codes ",")))
  unfolding read_closed_turns
  begun_closed_turns = begun_bracketed (codes ",") (codes "}") exact_turns turns_viable brace_apart refl refl

  closed_viable : Viable Closed []
  closed_viable = bracketed_viable (codes ",") (codes "}") refl refl turns_viable

  -- the indices and the turns
  abbrev Places : List Token → (Expr × Option Expr) × Turns → Type 0
  Places = Both Indices Closed

  abbrev PlacesDeep : List Token → Token → Type 0
  PlacesDeep = BothDeep (IsExcessBehind OpensIndices X) Indices ClosedDeep

  exact_places : Exact {A = (Expr × Option Expr) × Turns} (read_both (read_indices expression) (read_closed_turns expression)) Places PlacesDeep never
  exact_places = exact_both exact_indices exact_closed_turns
      (λ ys b rest w free. none_goes (has (symbol_at (codes ","))) index_goes comma_no_index (ys ++ rest) (member_begins exact_closed_turns begun_closed_turns ys b rest w))
      (λ ys t rest d. none_goes (has (symbol_at (codes ","))) index_goes comma_no_index (ys ++ (t ∷ rest)) (deep_begins exact_closed_turns begun_closed_turns ys t rest d))
      closed_viable

  places_viable : Viable Places []
  places_viable = let v = bracketed_viable (codes "[") (codes "]") refl refl whole_viable in record {
    more = v.more ++ closed_viable.more;
    value = (only_first v.value, closed_viable.value);
    member = record {
      front = v.more;
      back = closed_viable.more;
      split = refl;
      before = indices_by v.more v.more [] v.value (only_first v.value) (sym (append-nil v.more)) v.member (other_way (record { nothing = refl; same = refl }));
      behind = closed_viable.member;
    };
  }

  abbrev Based : List Token → Named × ((Expr × Option Expr) × Turns) → Type 0
  Based = Headed name_at Places

  exact_based_places : Exact {A = Named × ((Expr × Option Expr) × Turns)} (read_both (read_one name_at) (read_both (read_indices expression) (read_closed_turns expression))) Based (HeadedDeep name_at PlacesDeep) never
  exact_based_places = exact_headed name_at exact_places (record { what = kinds.Name []; line = 0 }) (record { name = []; line = 0 }) refl places_viable

  abbrev pub Many : List Token → Section → Type 0
  Many = Mapped many_section (Headed (symbol_at (codes "{")) (Headed name_at (Both Indices (Bracketed (codes ",") (codes "}") IsTurns))))

  abbrev pub ManyDeep : List Token → Token → Type 0
  ManyDeep = HeadedDeep (symbol_at (codes "{")) (HeadedDeep name_at (BothDeep (IsExcessBehind OpensIndices X) Indices (BracketedDeep (codes ",") (IsExcessBehind OpensTurns X))))

  pub exact_many : Exact (read_many expression) Many ManyDeep never
  unfolding read_many
  exact_many = exact_mapped many_section (exact_headed (symbol_at (codes "{")) exact_based_places (record { what = kinds.Symbol (codes "{"); line = 0 }) 0 refl
      (record {
        more = record { what = kinds.Name []; line = 0 } ∷ places_viable.more;
        value = (record { name = []; line = 0 }, places_viable.value);
        member = record { token = record { what = kinds.Name []; line = 0 }; back = places_viable.more; split = refl; passes = refl; behind = places_viable.member };
      }))

  pub begun_many : Begun (read_many expression) (has (symbol_at (codes "{")))
  unfolding read_many
  begun_many = begun_mapped many_section (begun_headed (symbol_at (codes "{")) exact_based_places)

  pub many_into : (xs : List Token) (s : Section) → Many xs s → IsSection xs s
  many_into xs s w = let h = w.whole in let n = h.behind in let p = n.behind in let c = p.behind in
      let name = name_is n.token.what n.token.line w.part.1.0 n.passes in
      subst (λ z. IsSection xs z)
      (ap (λ k. many_at w.part.1 k n.token.line) (symbol_line (codes "{") h.token w.part.0 h.passes) ∙ (ap (λ k. many_at w.part.1 w.part.0 k) (sym name.at) ∙ w.made))
      (many h.token n.token w.part.1.0.name p.front c.opened c.inner c.closed
      (h.split ∙ ap (λ ys. h.token ∷ ys) (n.split ∙ ap (λ ys. n.token ∷ ys) (p.split ∙ ap (λ ys. p.front ++ ys) c.split)))
      (symbol_token (codes "{") h.token w.part.0 h.passes) name.what p.before c.opens c.inside c.closes)

  pub many_back : (xs : List Token) (opened t : Token) (base : List ℕ) (indices : List Token) (comma : Token) (counted : List Token) (closed : Token) (e : Expr) (f : Option Expr) (several : Turns)
      → xs ≡ opened ∷ t ∷ (indices ++ (comma ∷ (counted ++ (closed ∷ [])))) → IsSymbol (codes "{") opened → t.what ≡ kinds.Name base → IsIndices indices e f → IsComma comma → IsTurns counted several
      → IsSymbol (codes "}") closed → Many xs (record { base = base; form = form.Many e f several; line = opened.line; base_line = t.line })
  many_back xs opened t base indices comma counted closed e f several s o n w c u m = record {
    part = (opened.line, (record { name = base; line = t.line }, (both_indices e f, several)));
    made = refl;
    whole = record {
      token = opened;
      back = t ∷ (indices ++ (comma ∷ (counted ++ (closed ∷ []))));
      split = s;
      passes = symbol_value (codes "{") opened o;
      behind = record {
        token = t;
        back = indices ++ (comma ∷ (counted ++ (closed ∷ [])));
        split = refl;
        passes = name_value t base n;
        behind = record {
          front = indices;
          back = comma ∷ (counted ++ (closed ∷ []));
          split = refl;
          before = w;
          behind = record { opened = comma; inner = counted; closed = closed; split = refl; opens = c; closes = m; inside = u };
        };
      };
    };
  }

  many_place : (xs back : List Token) (t opened p : Token) (named : Named) → xs ≡ opened ∷ p ∷ back → IsSymbol (codes "{") opened → NameIs p.what p.line named → PlacesDeep back t → IsExcessBehind OpensSection X xs t
  many_place xs back t opened p named e o n (ThenDeep.in_first x) = record {
    front = opened ∷ p ∷ x.front;
    inner = x.inner;
    split = e ∙ ap (λ ys. opened ∷ p ∷ ys) x.split;
    opens = section_indices opened p named.name x.front refl o n.what x.opens;
    excess = x.excess;
  }
  many_place xs back t opened p named e o n (ThenDeep.in_second front left v s w d) = let x = d.deep in record {
    front = opened ∷ p ∷ (front ++ (d.opened ∷ x.front));
    inner = x.inner;
    split = e ∙ ap (λ ys. opened ∷ p ∷ ys) (s ∙ (ap (λ ys. front ++ ys) (d.split ∙ ap (λ ys. d.opened ∷ ys) x.split) ∙ sym (append_assoc front (d.opened ∷ x.front) x.inner)));
    opens = section_turns opened p named.name front d.opened x.front refl o n.what w d.opens x.opens;
    excess = x.excess;
  }

  pub many_deeper : (xs : List Token) (t : Token) → ManyDeep xs t → IsExcessBehind OpensSection X xs t
  many_deeper xs t d = let n = d.deep in
      many_place xs n.back t d.token n.token n.value (d.split ∙ ap (λ ys. d.token ∷ ys) n.split) (symbol_token (codes "{") d.token d.value d.passes) (name_is n.token.what n.token.line n.value n.passes) n.deep

  many_at_place : (xs back : List Token) (t opened p : Token) (base : List ℕ) → xs ≡ opened ∷ p ∷ back → IsSymbol (codes "{") opened → p.what ≡ kinds.Name base → PlacesDeep back t → ManyDeep xs t
  many_at_place xs back t opened p base e o n d = record {
    token = opened;
    back = p ∷ back;
    value = opened.line;
    split = e;
    passes = symbol_value (codes "{") opened o;
    deep = record { token = p; back = back; value = record { name = base; line = p.line }; split = refl; passes = name_value p base n; deep = d };
  }

  pub many_in_indices : (xs front inner : List Token) (t opened p : Token) (base : List ℕ) → xs ≡ opened ∷ p ∷ (front ++ inner) → IsSymbol (codes "{") opened → p.what ≡ kinds.Name base → OpensIndices front → X inner t → ManyDeep xs t
  many_in_indices xs front inner t opened p base e o n i x = many_at_place xs (front ++ inner) t opened p base e o n (ThenDeep.in_first (record { front = front; inner = inner; split = refl; opens = i; excess = x }))

  pub many_in_turns : (xs indices front inner : List Token) (t opened p comma : Token) (base : List ℕ) (e : Expr) (f : Option Expr) → xs ≡ opened ∷ p ∷ ((indices ++ (comma ∷ front)) ++ inner) → IsSymbol (codes "{") opened
      → p.what ≡ kinds.Name base → IsIndices indices e f → IsComma comma → OpensTurns front → X inner t → ManyDeep xs t
  many_in_turns xs indices front inner t opened p comma base e f s o n w c i x =
      many_at_place xs ((indices ++ (comma ∷ front)) ++ inner) t opened p base s o n
      (ThenDeep.in_second indices (comma ∷ (front ++ inner)) (both_indices e f) (append_assoc indices (comma ∷ front) inner) w
      (record { opened = comma; inner = front ++ inner; split = refl; opens = c; deep = record { front = front; inner = inner; split = refl; opens = i; excess = x } }))
