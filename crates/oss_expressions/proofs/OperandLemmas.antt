-- Operands are read exactly, with an index behind them and prefixes before them, if the expressions in them are.
use Rattle.std.proofs.Common.{◌≡◌, if◌then◌else◌, ℕ, suc, Bool, true, false, ◌||◌, List, [], ◌∷◌, ◌++◌, refl, sym, ap, ◌∙◌, subst, append_assoc, Option, Some, None}
use Rattle.std.specs.Prelude.{codes, nat_lt}
use Rattle.std.proofs.lemmas.List.{append-nil}
use Rattle.oss_syntax.specs.declared.token.Token.{Token}
use Rattle.oss_syntax.specs.declared.token.TokenKind.{TokenKind}
use Rattle.oss_syntax.specs.declared.token.TokenKind.TheVariants as kinds
use Rattle.oss_syntax.specs.declared.tree.expr.BinOp.{BinOp}
use Rattle.oss_syntax.specs.declared.tree.expr.BinOp.TheVariants as op
use Rattle.oss_syntax.specs.declared.tree.expr.Expr.{Expr}
use Rattle.oss_syntax.specs.declared.tree.expr.ExprKind.TheVariants as exprs
use Rattle.oss_syntax.specs.declared.tree.expr.UnOp.{UnOp}
use Rattle.oss_syntax.specs.declared.tree.expr.UnOp.TheVariants as prefix
use Rattle.oss_grammar.specs.Expressions.{IsExpr, IsIndexed, IsWhole, primary_level, postfix_level, prefix_level, loosest_level, prefix_of, operator_of}
use Rattle.oss_grammar.specs.Expressions.IsExpr.{indexed as once_indexed, indexed_again, prefixed, joined, tighter}
use Rattle.oss_grammar.specs.Expressions.IsIndexed.{index}
use Rattle.oss_grammar.specs.Fronts.{Viable}
use Rattle.oss_grammar.specs.Grammar.{One, Both, Mapped, Either}
use Rattle.oss_grammar.specs.Grammar.Either.{one_way, other_way}
use Rattle.oss_grammar.specs.Levels.{Begins}
use Rattle.oss_grammar.specs.Levels.Begins.{in_index, in_second_index, under_prefix, on_the_right, in_tighter}
use Rattle.oss_grammar.specs.OneToken.{is_symbol, IsIndexOpen, IsIndexClose}
use Rattle.oss_grammar.specs.Reading.{Reader, begins, has, never, one_of, read_one, read_then, read_mapped, read_both, read_either, read_nothing}
use Rattle.oss_grammar.proofs.Parts.{Exact, Begun, exact_as, member_begins, deep_begins}
use Rattle.oss_grammar.proofs.PartLemmas.{Nowhere, nowhere, exact_one, begun_one, exact_nothing, Nothing, exact_mapped, begun_mapped, Then, ThenDeep, exact_then, begun_then, EitherDeep, exact_either, begun_either}
use Rattle.oss_grammar.proofs.PartLemmas.ThenDeep.{in_first, in_second}
use Rattle.oss_grammar.proofs.PartLemmas.EitherDeep.{one_deep, other_deep}
use Rattle.oss_grammar.proofs.PairLemmas.{some_text, exact_both, begun_both}
use Rattle.oss_grammar.proofs.StepLemmas.{none_goes, fewer_go}
use Rattle.oss_expressions.specs.ExpressionReading.{indexed, prefixed_by, read_index, read_second_index, read_postfix, read_prefixed}
use Rattle.oss_expressions.specs.TokenValues.{name_at, number_at, prefix_at, signed_in, begins_expression}
use Rattle.oss_expressions.proofs.ExactPairs.{Bracketed, BracketedDeep, exact_bracketed, begun_bracketed}
use Rattle.oss_expressions.proofs.TokenLemmas.{goes_on, opening, index_opening, index_closing, begins_never, exact_closed, has_symbol, on_symbol}
use Rattle.oss_expressions.proofs.PrimaryLemmas.{exact_primary, begun_primary}

-- a call may go on behind a name, and an index behind a primary expression
abbrev pub tight : Token → Bool
tight = one_of opening index_opening

former_false : (b c : Bool) → (b || c) ≡ false → b ≡ false
former_false false c e = refl
former_false true c e = absurd (cc)

latter_false : (b c : Bool) → (b || c) ≡ false → c ≡ false
latter_false false c e = e
latter_false true c e = absurd (cc)

-- operators have levels from 3 on
is_loose : Option (ℕ × BinOp) → Bool
is_loose None = true
is_loose (Some p) = nat_lt 2 p.0

loose_none : is_loose None ≡ true
unfolding is_loose
loose_none = refl

loose_some : (p : ℕ × BinOp) → nat_lt 2 p.0 ≡ true → is_loose (Some p) ≡ true
unfolding is_loose
loose_some p e = e

fits_if : (b : Bool) (p : ℕ × BinOp) (rest : Option (ℕ × BinOp)) → is_loose (Some p) ≡ true → is_loose rest ≡ true → is_loose (if b then Some p else rest) ≡ true
fits_if true p rest small more = small
fits_if false p rest small more = more

operators_loose : (k : TokenKind) → is_loose (operator_of k) ≡ true
unfolding operator_of
operators_loose k =
    fits_if (is_symbol (codes "*") k) (3, op.Mul) _ (loose_some (3, op.Mul) refl)
    (fits_if (is_symbol (codes "/") k) (3, op.Div) _ (loose_some (3, op.Div) refl)
    (fits_if (is_symbol (codes "%") k) (3, op.Rem) _ (loose_some (3, op.Rem) refl)
    (fits_if (is_symbol (codes "+") k) (4, op.Add) _ (loose_some (4, op.Add) refl)
    (fits_if (is_symbol (codes "-") k) (4, op.Sub) _ (loose_some (4, op.Sub) refl)
    (fits_if (is_symbol (codes "<<") k) (5, op.Left) _ (loose_some (5, op.Left) refl)
    (fits_if (is_symbol (codes ">>") k) (5, op.Right) _ (loose_some (5, op.Right) refl)
    (fits_if (is_symbol (codes "<") k) (6, op.Less) _ (loose_some (6, op.Less) refl)
    (fits_if (is_symbol (codes "<=") k) (6, op.LessEqual) _ (loose_some (6, op.LessEqual) refl)
    (fits_if (is_symbol (codes ">") k) (6, op.More) _ (loose_some (6, op.More) refl)
    (fits_if (is_symbol (codes ">=") k) (6, op.MoreEqual) _ (loose_some (6, op.MoreEqual) refl)
    (fits_if (is_symbol (codes "==") k) (7, op.Equal) _ (loose_some (7, op.Equal) refl)
    (fits_if (is_symbol (codes "!=") k) (7, op.Differ) _ (loose_some (7, op.Differ) refl)
    (fits_if (is_symbol (codes "&") k) (8, op.And) _ (loose_some (8, op.And) refl)
    (fits_if (is_symbol (codes "^") k) (9, op.Xor) _ (loose_some (9, op.Xor) refl)
    (fits_if (is_symbol (codes "|") k) (10, op.Or) _ (loose_some (10, op.Or) refl)
    (fits_if (is_symbol (codes "&&") k) (11, op.AndAlso) _ (loose_some (11, op.AndAlso) refl)
    (fits_if (is_symbol (codes "||") k) (12, op.OrElse) _ (loose_some (12, op.OrElse) refl) loose_none)))))))))))))))))

no_level_one : (k : TokenKind) (operator : BinOp) → operator_of k ≡ Some (1, operator) → ⊥
unfolding is_loose
no_level_one k operator e = let loose : is_loose (Some (1, operator)) ≡ true = ap is_loose (sym e) ∙ operators_loose k in absurd (cc)

no_level_two : (k : TokenKind) (operator : BinOp) → operator_of k ≡ Some (2, operator) → ⊥
unfolding is_loose
no_level_two k operator e = let loose : is_loose (Some (2, operator)) ≡ true = ap is_loose (sym e) ∙ operators_loose k in absurd (cc)

-- what begins with the bracket of an index, or nothing
module _ {f : Reader Expr} {U : List Token → Expr → Type 0} {D : List Token → Token → Type 0} (base : Expr) (part : Exact f U D tight) (first : Begun f index_opening) where
  not_opening : (t : Token) → index_opening t ≡ true → opening t ≡ false
  not_opening t e = on_symbol opening (codes "[") false (λ line. refl) t (has_symbol (codes "[") t e)

  exact_tail : Exact (read_either index_opening f (read_nothing base)) (Either U (Nothing base)) (EitherDeep D Nowhere) tight
  exact_tail = exact_either index_opening part first (exact_nothing base tight)
      (λ ys e rest w free. ap (λ zs. begins index_opening (zs ++ rest)) w.nothing ∙ fewer_go tight index_opening (λ t f. latter_false (opening t) (index_opening t) f) rest free) (λ ys t rest w. nowhere ys t w)

  tail_apart : (ys : List Token) (e : Expr) (rest : List Token) → Either U (Nothing base) ys e → begins tight rest ≡ false → begins opening (ys ++ rest) ≡ false
  tail_apart ys e rest (one_way w) free = none_goes index_opening opening not_opening (ys ++ rest) (member_begins part first ys e rest w)
  tail_apart ys e rest (other_way w) free = ap (λ zs. begins opening (zs ++ rest)) w.nothing ∙ fewer_go tight opening (λ t f. former_false (opening t) (index_opening t) f) rest free

  tail_apart_deep : (ys : List Token) (t : Token) (rest : List Token) → EitherDeep D Nowhere ys t → begins opening (ys ++ (t ∷ rest)) ≡ false
  tail_apart_deep ys t rest (one_deep w) = none_goes index_opening opening not_opening (ys ++ (t ∷ rest)) (deep_begins part first ys t rest w)
  tail_apart_deep ys t rest (other_deep w) = nowhere ys t w

  some_tail : Viable (Either U (Nothing base)) []
  some_tail = record { more = []; value = base; member = other_way (record { nothing = refl; same = refl }) }

-- an index in its brackets; behind an index, another or none; and both
abbrev pub Place : List Token → Expr → Type 0
Place = Bracketed (codes "[") (codes "]") IsWhole

abbrev pub Row : Expr → List Token → Expr → Type 0
Row row = Either (Mapped (indexed row) Place) (Nothing row)

abbrev pub Indexes : Expr → List Token → Expr → Type 0
Indexes base = Then (Mapped (indexed base) Place) Row

-- a limit is passed in one of them
abbrev pub PlaceDeep : (List Token → Token → Type 0) → List Token → Token → Type 0
PlaceDeep X = BracketedDeep (codes "[") X

abbrev pub RowDeep : (List Token → Token → Type 0) → Expr → List Token → Token → Type 0
RowDeep X row = EitherDeep (PlaceDeep X) Nowhere

abbrev pub IndexesDeep : (List Token → Token → Type 0) → Expr → List Token → Token → Type 0
IndexesDeep X base = ThenDeep (PlaceDeep X) (Mapped (indexed base) Place) (RowDeep X)

module _ {inner : Reader Expr} {X : List Token → Token → Type 0} (part : Exact inner IsWhole X goes_on) (first : Begun inner begins_expression) where
  index_ends : (t : Token) → index_closing t ≡ true → goes_on t ≡ false
  unfolding operator_of
  index_ends t e = on_symbol goes_on (codes "]") false (λ line. refl) t (has_symbol (codes "]") t e)

  pub exact_index : (base : Expr) → Exact (read_mapped (indexed base) (read_index inner)) (Mapped (indexed base) Place) (PlaceDeep X) never
  unfolding read_index
  exact_index base = exact_mapped (indexed base) (exact_bracketed (codes "[") (codes "]") part (some_text part first) index_ends refl refl)

  pub begun_index : (base : Expr) → Begun (read_mapped (indexed base) (read_index inner)) index_opening
  unfolding read_index
  begun_index base = begun_mapped (indexed base) (begun_bracketed (codes "[") (codes "]") part (some_text part first) index_ends refl refl)

  exact_row : (row : Expr) → Exact (read_second_index inner row) (Row row) (RowDeep X row) tight
  unfolding read_second_index
  exact_row row = exact_tail row (exact_closed tight (exact_index row)) (begun_index row)

  some_row : (row : Expr) → Viable (Row row) []
  some_row row = some_tail row (exact_closed tight (exact_index row)) (begun_index row)

  pub exact_indexes : (base : Expr) → Exact (read_then (read_mapped (indexed base) (read_index inner)) (read_second_index inner)) (Indexes base) (IndexesDeep X base) tight
  exact_indexes base = exact_then (exact_index base) exact_row (λ row ys e rest w free. begins_never (ys ++ rest)) (λ row ys t rest w. begins_never (ys ++ (t ∷ rest))) some_row

  pub begun_indexes : (base : Expr) → Begun (read_then (read_mapped (indexed base) (read_index inner)) (read_second_index inner)) index_opening
  begun_indexes base = begun_then (exact_index base) exact_row (λ row ys e rest w free. begins_never (ys ++ rest)) (λ row ys t rest w. begins_never (ys ++ (t ∷ rest))) some_row (begun_index base)

module _ {inner : Reader Expr} {n : ℕ} (part : Exact inner IsWhole (Begins loosest_level n) goes_on) (first : Begun inner begins_expression) where
  -- a primary expression, with no index, one or two
  abbrev Behind : Expr → List Token → Expr → Type 0
  Behind base = Either (Indexes base) (Nothing base)

  abbrev BehindDeep : Expr → List Token → Token → Type 0
  BehindDeep base = EitherDeep (IndexesDeep (Begins loosest_level n) base) Nowhere

  abbrev PostfixParts : List Token → Expr → Type 0
  PostfixParts = Then (IsExpr primary_level) Behind

  abbrev PostfixDeep : List Token → Token → Type 0
  PostfixDeep = ThenDeep (Begins primary_level (suc n)) (IsExpr primary_level) BehindDeep

  into_indexed : (xs front back : List Token) (base e : Expr) → xs ≡ front ++ back → IsExpr primary_level front base → Mapped (indexed base) Place back e → IsIndexed xs e
  into_indexed xs front back base e split w v =
      subst (λ x. IsIndexed xs x) v.made (index front v.whole.opened v.whole.closed v.whole.inner (split ∙ ap (λ ys. front ++ ys) v.whole.split) v.whole.opens v.whole.closes w v.whole.inside)

  into_again : (xs front back : List Token) (row e : Expr) → xs ≡ front ++ back → IsIndexed front row → Row row back e → IsExpr postfix_level xs e
  into_again xs front back row e split w (one_way v) =
      subst (λ x. IsExpr postfix_level xs x) v.made (indexed_again front v.whole.opened v.whole.closed v.whole.inner (split ∙ ap (λ ys. front ++ ys) v.whole.split) v.whole.opens v.whole.closes w v.whole.inside)
  into_again xs front back row e split w (other_way v) =
      let all : xs ≡ front = split ∙ (ap (λ ys. front ++ ys) v.nothing ∙ append-nil front) in
      subst (λ ys. IsExpr postfix_level ys e) (sym all) (once_indexed (subst (λ x. IsIndexed front x) v.same w))

  into_behind : (xs front back : List Token) (base e : Expr) → xs ≡ front ++ back → IsExpr primary_level front base → Behind base back e → IsExpr postfix_level xs e
  into_behind xs front back base e split w (one_way v) =
      into_again xs (front ++ v.front) v.back v.value e (split ∙ (ap (λ ys. front ++ ys) v.split ∙ sym (append_assoc front v.front v.back))) (into_indexed (front ++ v.front) front v.front base v.value refl w v.before) v.behind
  into_behind xs front back base e split w (other_way v) =
      let all : xs ≡ front = split ∙ (ap (λ ys. front ++ ys) v.nothing ∙ append-nil front) in
      subst (λ ys. IsExpr postfix_level ys e) (sym all) (tighter (subst (λ x. IsExpr primary_level front x) v.same w))

  into_postfix : (xs : List Token) (e : Expr) → PostfixParts xs e → IsExpr postfix_level xs e
  into_postfix xs e w = into_behind xs w.front w.back w.value e w.split w.before w.behind

  placed : (base at : Expr) (opened : Token) (inner : List Token) (closed : Token) → IsIndexOpen opened → IsIndexClose closed → IsWhole inner at → Mapped (indexed base) Place (opened ∷ (inner ++ (closed ∷ []))) (indexed base at)
  placed base at opened inner closed opens closes w = record { part = at; made = refl; whole = record { opened = opened; inner = inner; closed = closed; split = refl; opens = opens; closes = closes; inside = w } }

  out_of_postfix : (xs : List Token) (e : Expr) → IsExpr postfix_level xs e → PostfixParts xs e
  out_of_postfix xs e (once_indexed (index {a = a} {e = at} front opened closed inner split opens closes base v)) = record {
    front = front;
    back = opened ∷ (inner ++ (closed ∷ []));
    value = a;
    split = split;
    before = base;
    behind = one_way (record {
      front = opened ∷ (inner ++ (closed ∷ []));
      back = [];
      value = indexed a at;
      split = sym (append-nil (opened ∷ (inner ++ (closed ∷ []))));
      before = placed a at opened inner closed opens closes v;
      behind = other_way (record { nothing = refl; same = refl });
    });
  }
  out_of_postfix xs e (indexed_again {e = at} front opened closed inner split opens closes (index {a = a} {e = row} before one two between cut starts ends base v) w) = record {
    front = before;
    back = (one ∷ (between ++ (two ∷ []))) ++ (opened ∷ (inner ++ (closed ∷ [])));
    value = a;
    split = split ∙ (ap (λ ys. ys ++ (opened ∷ (inner ++ (closed ∷ [])))) cut ∙ append_assoc before (one ∷ (between ++ (two ∷ []))) (opened ∷ (inner ++ (closed ∷ []))));
    before = base;
    behind = one_way (record {
      front = one ∷ (between ++ (two ∷ []));
      back = opened ∷ (inner ++ (closed ∷ []));
      value = indexed a row;
      split = refl;
      before = placed a row one between two starts ends v;
      behind = one_way (placed (indexed a row) at opened inner closed opens closes w);
    });
  }
  out_of_postfix xs e (joined front t operator back split is a b) = absurd (no_level_one t.what operator is)
  out_of_postfix xs e (tighter w) = record { front = xs; back = []; value = e; split = sym (append-nil xs); before = w; behind = other_way (record { nothing = refl; same = refl }) }

  into_postfix_deep : (xs : List Token) (t : Token) → PostfixDeep xs t → Begins postfix_level (suc n) xs t
  into_postfix_deep xs t (in_first d) = in_tighter d
  into_postfix_deep xs t (in_second front back a e w (other_deep d)) = nowhere back t d
  into_postfix_deep xs t (in_second front back a e w (one_deep (in_first d))) = in_index front d.opened d.inner (e ∙ ap (λ ys. front ++ ys) d.split) w d.opens d.deep
  into_postfix_deep xs t (in_second front back a e w (one_deep (in_second place rest row z v (other_deep d)))) = nowhere rest t d
  into_postfix_deep xs t (in_second front back a e w (one_deep (in_second place rest row z v (one_deep d)))) =
      in_second_index (front ++ place) d.opened d.inner (e ∙ (ap (λ ys. front ++ ys) (z ∙ ap (λ ys. place ++ ys) d.split) ∙ sym (append_assoc front place (d.opened ∷ d.inner))))
      (into_indexed (front ++ place) front place a row refl w v) d.opens d.deep

  out_of_postfix_deep : (xs : List Token) (t : Token) → Begins postfix_level (suc n) xs t → PostfixDeep xs t
  out_of_postfix_deep xs t (in_index {base = a} before opened front e w opens d) =
      in_second before (opened ∷ front) a e w (one_deep (in_first (record { opened = opened; inner = front; split = refl; opens = opens; deep = d })))
  out_of_postfix_deep xs t (in_second_index before opened front e (index {a = a} {e = row} start one two between cut starts ends base v) opens d) =
      in_second start ((one ∷ (between ++ (two ∷ []))) ++ (opened ∷ front)) a (e ∙ (ap (λ ys. ys ++ (opened ∷ front)) cut ∙ append_assoc start (one ∷ (between ++ (two ∷ []))) (opened ∷ front))) base
      (one_deep (in_second (one ∷ (between ++ (two ∷ []))) (opened ∷ front) (indexed a row) refl (placed a row one between two starts ends v)
      (one_deep (record { opened = opened; inner = front; split = refl; opens = opens; deep = d }))))
  out_of_postfix_deep xs t (on_the_right before o operator front e is w d) = absurd (no_level_one o.what operator is)
  out_of_postfix_deep xs t (in_tighter d) = in_first d

  exact_behind : (base : Expr) → Exact (read_either index_opening (read_then (read_mapped (indexed base) (read_index inner)) (read_second_index inner)) (read_nothing base)) (Behind base) (BehindDeep base) tight
  exact_behind base = exact_tail base (exact_indexes part first base) (begun_indexes part first base)

  behind_apart : (base : Expr) (ys : List Token) (e : Expr) (rest : List Token) → Behind base ys e → begins tight rest ≡ false → begins opening (ys ++ rest) ≡ false
  behind_apart base = tail_apart base (exact_indexes part first base) (begun_indexes part first base)

  behind_apart_deep : (base : Expr) (ys : List Token) (t : Token) (rest : List Token) → BehindDeep base ys t → begins opening (ys ++ (t ∷ rest)) ≡ false
  behind_apart_deep base = tail_apart_deep base (exact_indexes part first base) (begun_indexes part first base)

  some_behind : (base : Expr) → Viable (Behind base) []
  some_behind base = some_tail base (exact_indexes part first base) (begun_indexes part first base)

  exact_postfix : Exact (read_postfix inner) (IsExpr postfix_level) (Begins postfix_level (suc n)) tight
  unfolding read_postfix
  exact_postfix = exact_as into_postfix out_of_postfix into_postfix_deep out_of_postfix_deep (exact_then (exact_primary part first) exact_behind behind_apart behind_apart_deep some_behind)

  begun_postfix : Begun (read_postfix inner) (one_of (has number_at) (one_of (has name_at) opening))
  unfolding read_postfix
  begun_postfix = begun_then (exact_primary part first) exact_behind behind_apart behind_apart_deep some_behind (begun_primary part first)

  -- an operand with prefixes, or with none
  module _ {operand : Reader Expr} (under : Exact operand (IsExpr prefix_level) (Begins prefix_level n) tight) (first_under : Begun operand begins_expression) where
    some_prefix : Token
    some_prefix = record { what = kinds.Symbol (codes "-"); line = 1 }

    exact_prefix : Exact (read_one prefix_at) (One prefix_at) Nowhere never
    unfolding some_prefix prefix_of
    exact_prefix = exact_one prefix_at some_prefix (prefix.Minus, 1) refl never

    abbrev SignedParts : List Token → Expr → Type 0
    SignedParts = Mapped prefixed_by (Both (One prefix_at) (IsExpr prefix_level))

    abbrev SignedDeep : List Token → Token → Type 0
    SignedDeep = ThenDeep Nowhere (One prefix_at) (λ sign. Begins prefix_level n)

    exact_signed : Exact (read_mapped prefixed_by (read_both (read_one prefix_at) operand)) SignedParts SignedDeep tight
    exact_signed = exact_mapped prefixed_by (exact_both exact_prefix under first_under (λ t e. refl))

    begun_signed : Begun (read_mapped prefixed_by (read_both (read_one prefix_at) operand)) (has prefix_at)
    begun_signed = begun_mapped prefixed_by (begun_both exact_prefix under first_under (λ t e. refl) (begun_one prefix_at))

    abbrev plain : Token → Bool
    plain = one_of (has number_at) (one_of (has name_at) opening)

    not_prefix : (t : Token) → plain t ≡ true → has prefix_at t ≡ false
    unfolding prefix_of
    not_prefix t e = on t.what e where
      on : (k : TokenKind) → plain (record { what = k; line = t.line }) ≡ true → has prefix_at (record { what = k; line = t.line }) ≡ false
      on (kinds.Name w) e = refl
      on (kinds.Symbol w) e = on_symbol (has prefix_at) (codes "(") false (λ line. refl) (record { what = kinds.Symbol w; line = t.line }) (has_symbol (codes "(") (record { what = kinds.Symbol w; line = t.line }) e)
      on (kinds.Keyword w) e = refl
      on (kinds.Number v u) e = refl
      on (kinds.Text w) e = refl
      on kinds.PragmaOss e = refl
      on kinds.PragmaEnd e = refl
      on kinds.Directive e = refl

    abbrev UnaryParts : List Token → Expr → Type 0
    UnaryParts = Either SignedParts (IsExpr postfix_level)

    abbrev UnaryDeep : List Token → Token → Type 0
    UnaryDeep = EitherDeep SignedDeep (Begins postfix_level (suc n))

    signed_is : (line : ℕ) (o : Option UnOp) (sign : UnOp) (at : ℕ) → signed_in line o ≡ Some (sign, at) → (o ≡ Some sign) × (at ≡ line)
    signed_is line None sign at e = absurd (cc)
    signed_is line (Some s) sign at e = let p : UnOp × ℕ = (s, line) in let q : UnOp × ℕ = (sign, at) in let same : p ≡ q = some_is p q e in
        (ap (λ (r : UnOp × ℕ). Some r.0) same, ap (λ (r : UnOp × ℕ). r.1) (sym same)) where
          some_is : (a b : UnOp × ℕ) → Some a ≡ Some b → a ≡ b
          some_is a b e = cc

    signed_value : (t : Token) (sign : UnOp) → prefix_of t.what ≡ Some sign → prefix_at t ≡ Some (sign, t.line)
    signed_value t sign e = ap (signed_in t.line) e

    into_unary : (xs : List Token) (e : Expr) → UnaryParts xs e → IsExpr prefix_level xs e
    into_unary xs e (other_way w) = tighter w
    into_unary xs e (one_way w) =
        let both = w.whole in
        let is = signed_is both.before.token.line (prefix_of both.before.token.what) w.part.0.0 w.part.0.1 both.before.passes in
        let same : record { what = exprs.Unary w.part.0.0 w.part.1; line = both.before.token.line } ≡ e = ap (λ line. record { what = exprs.Unary w.part.0.0 w.part.1; line = line }) (sym is.1) ∙ w.made in
        subst (λ x. IsExpr prefix_level xs x) same (prefixed both.before.token w.part.0.0 both.back (both.split ∙ ap (λ ys. ys ++ both.back) both.before.only) is.0 both.behind)

    out_of_unary : (xs : List Token) (e : Expr) → IsExpr prefix_level xs e → UnaryParts xs e
    out_of_unary xs e (prefixed {e = under} t sign operand split is w) = one_way (record {
      part = ((sign, t.line), under);
      made = refl;
      whole = record { front = t ∷ []; back = operand; split = split; before = record { token = t; only = refl; passes = signed_value t sign is }; behind = w };
    })
    out_of_unary xs e (joined front t operator back split is a b) = absurd (no_level_two t.what operator is)
    out_of_unary xs e (tighter w) = other_way w

    into_unary_deep : (xs : List Token) (t : Token) → UnaryDeep xs t → Begins prefix_level (suc n) xs t
    into_unary_deep xs t (other_deep d) = in_tighter d
    into_unary_deep xs t (one_deep (in_first d)) = nowhere xs t d
    into_unary_deep xs t (one_deep (in_second front back sign e w d)) =
        let is = signed_is w.token.line (prefix_of w.token.what) sign.0 sign.1 w.passes in under_prefix w.token sign.0 back (e ∙ ap (λ ys. ys ++ back) w.only) is.0 d

    out_of_unary_deep : (xs : List Token) (t : Token) → Begins prefix_level (suc n) xs t → UnaryDeep xs t
    out_of_unary_deep xs t (under_prefix p sign front e is d) = one_deep (in_second (p ∷ []) front (sign, p.line) e (record { token = p; only = refl; passes = signed_value p sign is }) d)
    out_of_unary_deep xs t (on_the_right before o operator front e is w d) = absurd (no_level_two o.what operator is)
    out_of_unary_deep xs t (in_tighter d) = other_deep d

    pub exact_prefixed : Exact (read_prefixed operand inner) (IsExpr prefix_level) (Begins prefix_level (suc n)) tight
    unfolding read_prefixed
    exact_prefixed = exact_as into_unary out_of_unary into_unary_deep out_of_unary_deep
        (exact_either (has prefix_at) exact_signed begun_signed exact_postfix
        (λ ys e rest w free. none_goes plain (has prefix_at) not_prefix (ys ++ rest) (member_begins exact_postfix begun_postfix ys e rest w))
        (λ ys t rest w. none_goes plain (has prefix_at) not_prefix (ys ++ (t ∷ rest)) (deep_begins exact_postfix begun_postfix ys t rest w)))

    pub begun_prefixed : Begun (read_prefixed operand inner) (one_of (has prefix_at) plain)
    unfolding read_prefixed
    begun_prefixed = begun_either (has prefix_at) begun_signed begun_postfix
