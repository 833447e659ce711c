-- The reader of simple statements is exact for each exact reader of expressions.
use Rattle.std.proofs.Common.{◌≡◌, ℕ, Bool, true, false, List, [], ◌∷◌, ◌++◌, refl, sym, ap, ◌∙◌, subst, append_assoc, Option, Some, None, is_some}
use Rattle.std.specs.Prelude.{codes}
use Rattle.std.proofs.lemmas.List.{append-nil}
use Rattle.oss_syntax.specs.declared.token.Token.{Token}
use Rattle.oss_syntax.specs.declared.token.TokenKind.{TokenKind}
use Rattle.oss_syntax.specs.declared.token.TokenKind.TheVariants as kinds
use Rattle.oss_syntax.specs.declared.tree.expr.BinOp.{BinOp}
use Rattle.oss_syntax.specs.declared.tree.expr.BinOp.TheVariants as op
use Rattle.oss_syntax.specs.declared.tree.expr.Expr.{Expr}
use Rattle.oss_syntax.specs.declared.tree.expr.ExprKind.TheVariants as exprs
use Rattle.oss_syntax.specs.declared.tree.stmt.Stmt.{Stmt}
use Rattle.oss_syntax.specs.declared.tree.stmt.StmtKind.TheVariants as stmts
use Rattle.oss_grammar.specs.Expressions.{IsWhole, operator_of}
use Rattle.oss_grammar.specs.Fronts.{Viable}
use Rattle.oss_grammar.specs.Grammar.{One, Mapped, Either}
use Rattle.oss_grammar.specs.Grammar.Either.{one_way, other_way}
use Rattle.oss_grammar.specs.Levels.{IsExcessBehind}
use Rattle.oss_grammar.specs.OneToken.{is_symbol}
use Rattle.oss_grammar.specs.Reading.{Reader, begins, has, one_of, never, read_one, read_then, read_mapped, read_both}
use Rattle.oss_grammar.specs.SimpleStatements.{IsTarget, IsSimple, assignment_of, step_of}
use Rattle.oss_grammar.specs.SimpleStatements.IsTarget.{name_target, element_target, grid_target, pointer_target, pointed_target}
use Rattle.oss_grammar.specs.SimpleStatements.IsSimple.{assigned, stepped, step_first, called}
use Rattle.oss_grammar.specs.StatementLimits.{OpensTarget, OpensSimple}
use Rattle.oss_grammar.specs.StatementLimits.OpensTarget.{element_place, column_place, pointed_place}
use Rattle.oss_grammar.specs.StatementLimits.OpensSimple.{simple_target, simple_value, stepped_target, first_value, later_value}
use Rattle.oss_grammar.proofs.Parts.{Exact, Begun, exact_as, exact_before, member_begins, deep_begins}
use Rattle.oss_grammar.proofs.PartLemmas.{Nowhere, nowhere, exact_one, begun_one, Nothing, exact_nothing, exact_mapped, begun_mapped, Then, ThenDeep, exact_then, begun_then, EitherDeep, exact_either, begun_either}
use Rattle.oss_grammar.proofs.PartLemmas.ThenDeep.{in_first, in_second}
use Rattle.oss_grammar.proofs.PartLemmas.EitherDeep.{one_deep, other_deep}
use Rattle.oss_grammar.proofs.PairLemmas.{some_text, exact_next, begun_next}
use Rattle.oss_grammar.proofs.StepLemmas.{none_goes, fewer_go}
use Rattle.oss_expressions.specs.ExpressionReading.{named_expression, indexed}
use Rattle.oss_expressions.specs.TokenValues.{symbol_at, name_at, begins_expression}
use Rattle.oss_expressions.specs.declared.cursor.Named.{Named}
use Rattle.oss_expressions.proofs.ExactPairs.{Headed, HeadedDeep, exact_headed, begun_headed, Bracketed, BracketedDeep, exact_bracketed, begun_bracketed, Behind, exact_behind, begun_behind, exact_or, symbol_line}
use Rattle.oss_expressions.proofs.PrimaryLemmas.{Closed, ClosedDeep, exact_arguments, begun_arguments, name_is, name_one}
use Rattle.oss_expressions.proofs.PrimaryLemmas.ClosedDeep.{first_argument, later_argument}
use Rattle.oss_expressions.proofs.TokenLemmas.{begins_never, exact_closed, exact_symbol, symbol_token, symbol_one, goes_on, on_symbol, not_symbol, has_symbol}
use Rattle.oss_parse.specs.SimpleReading.{assignment_at, stepped_in, step_at, star, deref_at, assigned_to, stepped_by, step_before, call_statement, read_element, read_target_again, read_target_from, read_pointed_at, read_starred, read_target, read_assigned, read_step_first, read_called, read_simple_from, read_simple, begins_simple}

-- the brackets that open an index, and a call
abbrev index_opening : Token → Bool
index_opening = has (symbol_at (codes "["))

abbrev opening : Token → Bool
opening = has (symbol_at (codes "("))

index_closed : (t : Token) → has (symbol_at (codes "]")) t ≡ true → goes_on t ≡ false
unfolding operator_of
index_closed t e = on_symbol goes_on (codes "]") false (λ line. refl) t (has_symbol (codes "]") t e)

-- no expression goes on with a bracket that closes,
pub closed_ends : (t : Token) → has (symbol_at (codes ")")) t ≡ true → goes_on t ≡ false
unfolding operator_of
closed_ends t e = on_symbol goes_on (codes ")") false (λ line. refl) t (has_symbol (codes ")") t e)

-- nor with the semicolon behind it
pub semicolon_ends : (t : Token) → has (symbol_at (codes ";")) t ≡ true → goes_on t ≡ false
unfolding operator_of
semicolon_ends t e = on_symbol goes_on (codes ";") false (λ line. refl) t (has_symbol (codes ";") t e)

goes_index : (t : Token) → goes_on t ≡ false → index_opening t ≡ false
goes_index t e = on (is_symbol (codes "[") t.what) refl where
  on : (b : Bool) → is_symbol (codes "[") t.what ≡ b → index_opening t ≡ false
  on true is = let no_way : goes_on t ≡ true = on_symbol goes_on (codes "[") true (λ line. refl) t is in absurd (cc)
  on false is = rw is refl

-- a token that is neither `++` nor `--` is no step
no_step : (k : TokenKind) (line : ℕ) (b c : Bool) → is_symbol (codes "++") k ≡ b → is_symbol (codes "--") k ≡ c → b ≡ false → c ≡ false → is_some (stepped_in line (step_of k)) ≡ false
unfolding step_of
no_step k line false false e d p q = rw e (rw d refl)
no_step k line true c e d p q = absurd (cc)
no_step k line false true e d p q = absurd (cc)

not_step : (test : Token → Bool) → ((line : ℕ) → test (record { what = kinds.Symbol (codes "++"); line = line }) ≡ false) → ((line : ℕ) → test (record { what = kinds.Symbol (codes "--"); line = line }) ≡ false)
    → (t : Token) → test t ≡ true → has step_at t ≡ false
not_step test one two t e = no_step t.what t.line (is_symbol (codes "++") t.what) (is_symbol (codes "--") t.what) refl refl (symbol_fails (codes "++") one) (symbol_fails (codes "--") two) where
  symbol_fails : (s : List ℕ) → ((line : ℕ) → test (record { what = kinds.Symbol s; line = line }) ≡ false) → is_symbol s t.what ≡ false
  symbol_fails s told = on (is_symbol s t.what) refl where
    on : (b : Bool) → is_symbol s t.what ≡ b → b ≡ false
    on true is = let no_way : test t ≡ false = on_symbol test s false told t is in absurd (cc)
    on false is = refl

assignment_no_step : (t : Token) → has assignment_at t ≡ true → has step_at t ≡ false
unfolding assignment_of
assignment_no_step t e = not_step (has assignment_at) (λ line. refl) (λ line. refl) t e

-- behind a target stands a step or an assignment
abbrev marks : Token → Bool
marks = one_of (has step_at) (has assignment_at)

mark_no_index : (t : Token) → marks t ≡ true → index_opening t ≡ false
unfolding assignment_of step_of
mark_no_index t e = not_symbol marks (codes "[") (λ line. refl) t e

mark_no_opening : (t : Token) → marks t ≡ true → opening t ≡ false
unfolding assignment_of step_of
mark_no_opening t e = not_symbol marks (codes "(") (λ line. refl) t e

-- what a step is
record StepIs (t : Token) (p : BinOp × ℕ) : Type 0 where
  what : step_of t.what ≡ Some p.0
  at : t.line ≡ p.1

step_is : (t : Token) (p : BinOp × ℕ) → step_at t ≡ Some p → StepIs t p
step_is t p e = on (step_of t.what) refl e where
  some_is : (a b : BinOp × ℕ) → Some a ≡ Some b → a ≡ b
  some_is a b e = cc

  on : (o : Option BinOp) → step_of t.what ≡ o → stepped_in t.line o ≡ Some p → StepIs t p
  on None is told = absurd (cc)
  on (Some operator) is told = let same = some_is (operator, t.line) p told in record { what = is ∙ ap (λ (q : BinOp × ℕ). Some q.0) same; at = ap (λ (q : BinOp × ℕ). q.1) same }

step_value : (t : Token) (operator : BinOp) → step_of t.what ≡ Some operator → step_at t ≡ Some (operator, t.line)
step_value t operator e = ap (stepped_in t.line) e

module _ {expression : Reader Expr} {X : List Token → Token → Type 0} (part : Exact expression IsWhole X goes_on) (first : Begun expression begins_expression) where
  -- the targets
  abbrev Indexed : List Token → Expr → Type 0
  Indexed = Bracketed (codes "[") (codes "]") IsWhole

  abbrev IndexedDeep : List Token → Token → Type 0
  IndexedDeep = BracketedDeep (codes "[") X

  abbrev ElementOf : Expr → List Token → Expr → Type 0
  ElementOf base = Mapped (indexed base) Indexed

  exact_element : (base : Expr) → Exact (read_element expression base) (ElementOf base) IndexedDeep never
  exact_element base = exact_mapped (indexed base) (exact_bracketed (codes "[") (codes "]") part (some_text part first) index_closed refl refl)

  begun_element : (base : Expr) → Begun (read_element expression base) index_opening
  begun_element base = begun_mapped (indexed base) (begun_bracketed (codes "[") (codes "]") part (some_text part first) index_closed refl refl)

  -- a second index, or none
  abbrev TargetAgain : Expr → List Token → Expr → Type 0
  TargetAgain base = Either (ElementOf base) (Nothing base)

  abbrev TargetAgainDeep : List Token → Token → Type 0
  TargetAgainDeep = EitherDeep IndexedDeep Nowhere

  exact_again : (base : Expr) → Exact (read_target_again expression base) (TargetAgain base) TargetAgainDeep index_opening
  unfolding read_target_again
  exact_again base = exact_either index_opening (exact_closed index_opening (exact_element base)) (begun_element base) (exact_nothing base index_opening)
      (λ ys b rest w free. ap (λ zs. begins index_opening (zs ++ rest)) w.nothing ∙ free)
      (λ ys t rest d. nowhere ys t d)

  again_viable : (base : Expr) → Viable (TargetAgain base) []
  again_viable base = record { more = []; value = base; member = other_way (record { nothing = refl; same = refl }) }

  -- an index, and perhaps a second one
  abbrev Elements : Named → List Token → Expr → Type 0
  Elements name = Then (ElementOf (named_expression name)) TargetAgain

  abbrev ElementsDeep : Named → List Token → Token → Type 0
  ElementsDeep name = ThenDeep IndexedDeep (ElementOf (named_expression name)) (λ base. TargetAgainDeep)

  exact_elements : (name : Named) → Exact (read_then (read_element expression (named_expression name)) (read_target_again expression)) (Elements name) (ElementsDeep name) index_opening
  exact_elements name =
      exact_then (exact_element (named_expression name)) exact_again (λ base ys b rest w free. begins_never (ys ++ rest)) (λ base ys t rest d. begins_never (ys ++ (t ∷ rest))) again_viable

  begun_elements : (name : Named) → Begun (read_then (read_element expression (named_expression name)) (read_target_again expression)) index_opening
  begun_elements name =
      begun_then (exact_element (named_expression name)) exact_again (λ base ys b rest w free. begins_never (ys ++ rest)) (λ base ys t rest d. begins_never (ys ++ (t ∷ rest))) again_viable
      (begun_element (named_expression name))

  abbrev TargetFrom : Named → List Token → Expr → Type 0
  TargetFrom name = Either (Elements name) (Nothing (named_expression name))

  abbrev TargetFromDeep : Named → List Token → Token → Type 0
  TargetFromDeep name = EitherDeep (ElementsDeep name) Nowhere

  exact_target_from : (name : Named) → Exact (read_target_from expression name) (TargetFrom name) (TargetFromDeep name) index_opening
  unfolding read_target_from
  exact_target_from name = exact_either index_opening (exact_elements name) (begun_elements name) (exact_nothing (named_expression name) index_opening)
      (λ ys b rest w free. ap (λ zs. begins index_opening (zs ++ rest)) w.nothing ∙ free)
      (λ ys t rest d. nowhere ys t d)

  target_from_viable : (name : Named) → Viable (TargetFrom name) []
  target_from_viable name = record { more = []; value = named_expression name; member = other_way (record { nothing = refl; same = refl }) }

  exact_name : Exact (read_one name_at) (One name_at) Nowhere never
  exact_name = exact_one name_at (record { what = kinds.Name []; line = 0 }) (record { name = []; line = 0 }) refl never

  abbrev PointedAt : ℕ → List Token → Expr → Type 0
  PointedAt line = Either (Mapped (λ name. deref_at line (named_expression name)) (One name_at)) (Mapped (deref_at line) (Bracketed (codes "(") (codes ")") IsWhole))

  abbrev PointedAtDeep : List Token → Token → Type 0
  PointedAtDeep = EitherDeep Nowhere (BracketedDeep (codes "(") X)

  opening_no_name : (t : Token) → opening t ≡ true → has name_at t ≡ false
  opening_no_name t e = on_symbol (has name_at) (codes "(") false (λ line. refl) t (has_symbol (codes "(") t e)

  exact_pointed_at : (line : ℕ) → Exact (read_pointed_at expression line) (PointedAt line) PointedAtDeep never
  unfolding read_pointed_at
  exact_pointed_at line = exact_or (has name_at) opening (exact_mapped (λ name. deref_at line (named_expression name)) exact_name) (begun_mapped (λ name. deref_at line (named_expression name)) (begun_one name_at))
      (exact_mapped (deref_at line) (exact_bracketed (codes "(") (codes ")") part (some_text part first) closed_ends refl refl))
      (begun_mapped (deref_at line) (begun_bracketed (codes "(") (codes ")") part (some_text part first) closed_ends refl refl)) opening_no_name

  begun_pointed_at : (line : ℕ) → Begun (read_pointed_at expression line) (one_of (has name_at) opening)
  unfolding read_pointed_at
  begun_pointed_at line = begun_either (has name_at) (begun_mapped (λ name. deref_at line (named_expression name)) (begun_one name_at))
      (begun_mapped (deref_at line) (begun_bracketed (codes "(") (codes ")") part (some_text part first) closed_ends refl refl))

  abbrev Starred : List Token → Expr → Type 0
  Starred = Then (One (symbol_at (codes "*"))) PointedAt

  abbrev StarredDeep : List Token → Token → Type 0
  StarredDeep = ThenDeep Nowhere (One (symbol_at (codes "*"))) (λ line. PointedAtDeep)

  exact_starred : Exact (read_starred expression) Starred StarredDeep never
  unfolding read_starred
  exact_starred = exact_next (exact_symbol (codes "*") refl never) exact_pointed_at begun_pointed_at (λ line t e. refl)

  begun_starred : Begun (read_starred expression) star
  unfolding read_starred
  begun_starred = begun_next (exact_symbol (codes "*") refl never) exact_pointed_at begun_pointed_at (λ line t e. refl) (begun_one (symbol_at (codes "*")))

  abbrev NamedTarget : List Token → Expr → Type 0
  NamedTarget = Then (One name_at) TargetFrom

  abbrev NamedTargetDeep : List Token → Token → Type 0
  NamedTargetDeep = ThenDeep Nowhere (One name_at) TargetFromDeep

  exact_named_target : Exact (read_then (read_one name_at) (read_target_from expression)) NamedTarget NamedTargetDeep index_opening
  exact_named_target = exact_then exact_name exact_target_from (λ name ys b rest w free. begins_never (ys ++ rest)) (λ name ys t rest d. begins_never (ys ++ (t ∷ rest))) target_from_viable

  begun_named_target : Begun (read_then (read_one name_at) (read_target_from expression)) (has name_at)
  begun_named_target = begun_then exact_name exact_target_from (λ name ys b rest w free. begins_never (ys ++ rest)) (λ name ys t rest d. begins_never (ys ++ (t ∷ rest))) target_from_viable (begun_one name_at)

  name_no_star : (t : Token) → has name_at t ≡ true → star t ≡ false
  name_no_star t e = not_symbol (has name_at) (codes "*") (λ line. refl) t e

  starred_into_by : (xs front back : List Token) (line : ℕ) (e : Expr) → xs ≡ front ++ back → One (symbol_at (codes "*")) front line → PointedAt line back e → IsTarget xs e
  starred_into_by xs front back line e s w (one_way m) =
      let n = m.whole in let is = name_is n.token.what n.token.line m.part n.passes in
      subst (λ e. IsTarget xs e)
      (ap (λ k. deref_at w.token.line (record { what = exprs.Name m.part.name; line = k })) (sym is.at) ∙ (ap (λ k. deref_at k (named_expression m.part)) (symbol_line (codes "*") w.token line w.passes) ∙ m.made))
      (pointer_target w.token n.token m.part.name (s ∙ (ap (λ ys. ys ++ back) w.only ∙ ap (λ ys. w.token ∷ ys) n.only)) (symbol_token (codes "*") w.token line w.passes) is.what)
  starred_into_by xs front back line e s w (other_way m) = let b = m.whole in
      subst (λ e. IsTarget xs e) (ap (λ k. deref_at k m.part) (symbol_line (codes "*") w.token line w.passes) ∙ m.made)
      (pointed_target w.token b.opened b.inner b.closed (s ∙ (ap (λ ys. ys ++ back) w.only ∙ ap (λ ys. w.token ∷ ys) b.split)) (symbol_token (codes "*") w.token line w.passes) b.opens b.closes b.inside)

  starred_into : (xs : List Token) (e : Expr) → Starred xs e → IsTarget xs e
  starred_into xs e w = starred_into_by xs w.front w.back w.value e w.split w.before w.behind

  elements_into : (xs front one two : List Token) (name : Named) (row e : Expr) → xs ≡ front ++ (one ++ two) → One name_at front name → ElementOf (named_expression name) one row → TargetAgain row two e → IsTarget xs e
  elements_into xs front one two name row e s n m (one_way r) =
      let is = name_is n.token.what n.token.line name n.passes in let b = m.whole in let c = r.whole in
      subst (λ e. IsTarget xs e) (ap (λ k. indexed (indexed (record { what = exprs.Name name.name; line = k }) m.part) r.part) (sym is.at) ∙ (ap (λ base. indexed base r.part) m.made ∙ r.made))
      (grid_target n.token name.name b.opened b.inner b.closed c.opened c.inner c.closed
      (s ∙ (ap (λ ys. ys ++ (one ++ two)) n.only ∙ ap (λ ys. n.token ∷ ys) (ap (λ ys. ys ++ two) b.split
      ∙ ap (λ ys. b.opened ∷ ys) (append_assoc b.inner (b.closed ∷ []) two ∙ ap (λ ys. b.inner ++ (b.closed ∷ ys)) c.split))))
      is.what b.opens b.closes c.opens c.closes b.inside c.inside)
  elements_into xs front one two name row e s n m (other_way r) =
      let is = name_is n.token.what n.token.line name n.passes in let b = m.whole in
      subst (λ e. IsTarget xs e) (ap (λ k. indexed (record { what = exprs.Name name.name; line = k }) m.part) (sym is.at) ∙ (m.made ∙ r.same))
      (element_target n.token name.name b.opened b.inner b.closed
      (s ∙ (ap (λ ys. ys ++ (one ++ two)) n.only ∙ ap (λ ys. n.token ∷ ys) (ap (λ ys. one ++ ys) r.nothing ∙ (append-nil one ∙ b.split)))) is.what b.opens b.closes b.inside)

  named_into_by : (xs front back : List Token) (name : Named) (e : Expr) → xs ≡ front ++ back → One name_at front name → TargetFrom name back e → IsTarget xs e
  named_into_by xs front back name e s n (one_way m) = elements_into xs front m.front m.back name m.value e (s ∙ ap (λ ys. front ++ ys) m.split) n m.before m.behind
  named_into_by xs front back name e s n (other_way m) =
      let is = name_is n.token.what n.token.line name n.passes in
      subst (λ e. IsTarget xs e) (ap (λ k. record { what = exprs.Name name.name; line = k }) (sym is.at) ∙ m.same)
      (name_target n.token name.name (s ∙ (ap (λ ys. ys ++ back) n.only ∙ ap (λ ys. n.token ∷ ys) m.nothing)) is.what)

  named_into : (xs : List Token) (e : Expr) → NamedTarget xs e → IsTarget xs e
  named_into xs e w = named_into_by xs w.front w.back w.value e w.split w.before w.behind

  target_into : (xs : List Token) (e : Expr) → Either Starred NamedTarget xs e → IsTarget xs e
  target_into xs e (one_way w) = starred_into xs e w
  target_into xs e (other_way w) = named_into xs e w

  target_back : (xs : List Token) (e : Expr) → IsTarget xs e → Either Starred NamedTarget xs e
  target_back xs e (name_target t word s n) = other_way (record {
    front = t ∷ [];
    back = [];
    value = record { name = word; line = t.line };
    split = s;
    before = name_one t word n;
    behind = other_way (record { nothing = refl; same = refl });
  })
  target_back xs e (element_target {at = at} t word opened inner closed s n o c w) = other_way (record {
    front = t ∷ [];
    back = opened ∷ (inner ++ (closed ∷ []));
    value = record { name = word; line = t.line };
    split = s;
    before = name_one t word n;
    behind = one_way (record {
      front = opened ∷ (inner ++ (closed ∷ []));
      back = [];
      value = indexed (record { what = exprs.Name word; line = t.line }) at;
      split = sym (append-nil (opened ∷ (inner ++ (closed ∷ []))));
      before = record { part = at; made = refl; whole = record { opened = opened; inner = inner; closed = closed; split = refl; opens = o; closes = c; inside = w } };
      behind = other_way (record { nothing = refl; same = refl });
    });
  })
  target_back xs e (grid_target {row = row} {column = column} t word opened inner closed again second ended s n o c a d w v) = other_way (record {
    front = t ∷ [];
    back = opened ∷ (inner ++ (closed ∷ again ∷ (second ++ (ended ∷ []))));
    value = record { name = word; line = t.line };
    split = s;
    before = name_one t word n;
    behind = one_way (record {
      front = opened ∷ (inner ++ (closed ∷ []));
      back = again ∷ (second ++ (ended ∷ []));
      value = indexed (record { what = exprs.Name word; line = t.line }) row;
      split = ap (λ ys. opened ∷ ys) (sym (append_assoc inner (closed ∷ []) (again ∷ (second ++ (ended ∷ [])))));
      before = record { part = row; made = refl; whole = record { opened = opened; inner = inner; closed = closed; split = refl; opens = o; closes = c; inside = w } };
      behind = one_way (record { part = column; made = refl; whole = record { opened = again; inner = second; closed = ended; split = refl; opens = a; closes = d; inside = v } });
    });
  })
  target_back xs e (pointer_target mark t word s m n) = one_way (record {
    front = mark ∷ [];
    back = t ∷ [];
    value = mark.line;
    split = s;
    before = symbol_one (codes "*") mark m;
    behind = one_way (record { part = record { name = word; line = t.line }; made = refl; whole = name_one t word n });
  })
  target_back xs e (pointed_target {e = v} mark opened inner closed s m o c w) = one_way (record {
    front = mark ∷ [];
    back = opened ∷ (inner ++ (closed ∷ []));
    value = mark.line;
    split = s;
    before = symbol_one (codes "*") mark m;
    behind = other_way (record { part = v; made = refl; whole = record { opened = opened; inner = inner; closed = closed; split = refl; opens = o; closes = c; inside = w } });
  })

  starred_deeper : (xs : List Token) (t : Token) → StarredDeep xs t → IsExcessBehind OpensTarget X xs t
  starred_deeper xs t (in_first d) = nowhere xs t d
  starred_deeper xs t (in_second front back line e w (one_deep d)) = nowhere back t d
  starred_deeper xs t (in_second front back line e w (other_deep d)) = record {
    front = w.token ∷ d.opened ∷ [];
    inner = d.inner;
    split = e ∙ (ap (λ ys. ys ++ back) w.only ∙ ap (λ ys. w.token ∷ ys) d.split);
    opens = pointed_place w.token d.opened refl (symbol_token (codes "*") w.token line w.passes) d.opens;
    excess = d.deep;
  }

  named_deeper : (xs : List Token) (t : Token) → NamedTargetDeep xs t → IsExcessBehind OpensTarget X xs t
  named_deeper xs t (in_first d) = nowhere xs t d
  named_deeper xs t (in_second front back name e w (other_deep d)) = nowhere back t d
  named_deeper xs t (in_second front back name e w (one_deep (in_second one two row s m (other_deep d)))) = nowhere two t d
  named_deeper xs t (in_second front back name e w (one_deep (in_second one two row s m (one_deep d)))) = let b = m.whole in record {
    front = w.token ∷ b.opened ∷ (b.inner ++ (b.closed ∷ d.opened ∷ []));
    inner = d.inner;
    split = e ∙ (ap (λ ys. ys ++ back) w.only ∙ ap (λ ys. w.token ∷ ys) (s ∙ (ap (λ ys. ys ++ two) b.split ∙ ap (λ ys. b.opened ∷ ys) (append_assoc b.inner (b.closed ∷ []) two
        ∙ (ap (λ ys. b.inner ++ (b.closed ∷ ys)) d.split ∙ sym (append_assoc b.inner (b.closed ∷ d.opened ∷ []) d.inner))))));
    opens = column_place w.token name.name b.opened b.inner b.closed d.opened refl ((name_is w.token.what w.token.line name w.passes).what) b.opens b.inside b.closes d.opens;
    excess = d.deep;
  }
  named_deeper xs t (in_second front back name e w (one_deep (in_first d))) = record {
    front = w.token ∷ d.opened ∷ [];
    inner = d.inner;
    split = e ∙ (ap (λ ys. ys ++ back) w.only ∙ ap (λ ys. w.token ∷ ys) d.split);
    opens = element_place w.token name.name d.opened refl ((name_is w.token.what w.token.line name w.passes).what) d.opens;
    excess = d.deep;
  }

  target_deeper : (xs : List Token) (t : Token) → EitherDeep StarredDeep NamedTargetDeep xs t → IsExcessBehind OpensTarget X xs t
  target_deeper xs t (one_deep d) = starred_deeper xs t d
  target_deeper xs t (other_deep d) = named_deeper xs t d

  target_upper_by : (xs before inner : List Token) (t : Token) → xs ≡ before ++ inner → X inner t → OpensTarget before → EitherDeep StarredDeep NamedTargetDeep xs t
  target_upper_by xs before inner t e x (element_place n word opened s what o) = other_deep (in_second (n ∷ []) (opened ∷ inner) (record { name = word; line = n.line }) (e ∙ ap (λ ys. ys ++ inner) s) (name_one n word what)
      (one_deep (in_first (record { opened = opened; inner = inner; split = refl; opens = o; deep = x }))))
  target_upper_by xs before inner t e x (column_place {row = row} n word opened one closed again s what o w c a) =
      other_deep (in_second (n ∷ []) (opened ∷ (one ++ (closed ∷ again ∷ inner))) (record { name = word; line = n.line })
      (e ∙ (ap (λ ys. ys ++ inner) s ∙ ap (λ ys. n ∷ opened ∷ ys) (append_assoc one (closed ∷ again ∷ []) inner))) (name_one n word what)
      (one_deep (in_second (opened ∷ (one ++ (closed ∷ []))) (again ∷ inner) (indexed (record { what = exprs.Name word; line = n.line }) row)
      (ap (λ ys. opened ∷ ys) (sym (append_assoc one (closed ∷ []) (again ∷ inner))))
      (record { part = row; made = refl; whole = record { opened = opened; inner = one; closed = closed; split = refl; opens = o; closes = c; inside = w } })
      (one_deep (record { opened = again; inner = inner; split = refl; opens = a; deep = x })))))
  target_upper_by xs before inner t e x (pointed_place mark opened s m o) = one_deep (in_second (mark ∷ []) (opened ∷ inner) mark.line (e ∙ ap (λ ys. ys ++ inner) s) (symbol_one (codes "*") mark m)
      (other_deep (record { opened = opened; inner = inner; split = refl; opens = o; deep = x })))

  target_upper : (xs : List Token) (t : Token) → IsExcessBehind OpensTarget X xs t → EitherDeep StarredDeep NamedTargetDeep xs t
  target_upper xs t w = target_upper_by xs w.front w.inner t w.split w.excess w.opens

  exact_target : Exact (read_target expression) IsTarget (IsExcessBehind OpensTarget X) index_opening
  unfolding read_target
  exact_target = exact_as target_into target_back target_deeper target_upper (exact_or star (has name_at) (exact_closed index_opening exact_starred) begun_starred exact_named_target begun_named_target name_no_star)

  begun_target : Begun (read_target expression) (one_of star (has name_at))
  unfolding read_target
  begun_target = begun_either star begun_starred begun_named_target

  -- an assignment or a step behind a target
  exact_step_mark : Exact (read_one step_at) (One step_at) Nowhere never
  unfolding step_of
  exact_step_mark = exact_one step_at (record { what = kinds.Symbol (codes "++"); line = 0 }) (op.Add, 0) refl never

  abbrev Assigned : Expr → List Token → Stmt → Type 0
  Assigned target = Either (Mapped (stepped_by target) (One step_at)) (Mapped (assigned_to target) (Headed assignment_at IsWhole))

  abbrev AssignedDeep : List Token → Token → Type 0
  AssignedDeep = EitherDeep Nowhere (HeadedDeep assignment_at X)

  exact_value : (target : Expr) → Exact (read_mapped (assigned_to target) (read_both (read_one assignment_at) expression)) (Mapped (assigned_to target) (Headed assignment_at IsWhole)) (HeadedDeep assignment_at X) goes_on
  unfolding assignment_of
  exact_value target = exact_mapped (assigned_to target) (exact_headed assignment_at part (record { what = kinds.Symbol (codes "="); line = 0 }) None refl (some_text part first))

  begun_value : (target : Expr) → Begun (read_mapped (assigned_to target) (read_both (read_one assignment_at) expression)) (has assignment_at)
  begun_value target = begun_mapped (assigned_to target) (begun_headed assignment_at part)

  exact_assigned : (target : Expr) → Exact (read_assigned expression target) (Assigned target) AssignedDeep goes_on
  unfolding read_assigned
  exact_assigned target = exact_or (has step_at) (has assignment_at) (exact_closed goes_on (exact_mapped (stepped_by target) exact_step_mark)) (begun_mapped (stepped_by target) (begun_one step_at))
      (exact_value target) (begun_value target) assignment_no_step

  begun_assigned : (target : Expr) → Begun (read_assigned expression target) marks
  unfolding read_assigned
  begun_assigned target = begun_either (has step_at) (begun_mapped (stepped_by target) (begun_one step_at)) (begun_value target)

  -- a step before its target
  abbrev StepFirst : List Token → Stmt → Type 0
  StepFirst = Mapped step_before (Headed step_at IsTarget)

  abbrev StepFirstDeep : List Token → Token → Type 0
  StepFirstDeep = HeadedDeep step_at (IsExcessBehind OpensTarget X)

  exact_step_first : Exact (read_step_first expression) StepFirst StepFirstDeep goes_on
  unfolding read_step_first step_of
  exact_step_first = exact_mapped step_before (exact_headed step_at (exact_before index_opening goes_on (λ rest free. fewer_go goes_on index_opening goes_index rest free) exact_target)
      (record { what = kinds.Symbol (codes "++"); line = 0 }) (op.Add, 0) refl (some_text exact_target begun_target))

  begun_step_first : Begun (read_step_first expression) (has step_at)
  unfolding read_step_first
  begun_step_first = begun_mapped step_before (begun_headed step_at exact_target)

  -- a call
  abbrev CallOf : Named → List Token → Stmt → Type 0
  CallOf name = Mapped (call_statement name) (Behind (codes "(") Closed)

  abbrev CallDeep : List Token → Token → Type 0
  CallDeep = BracketedDeep (codes "(") (ClosedDeep X)

  exact_called : (name : Named) → Exact (read_called expression name) (CallOf name) CallDeep never
  unfolding read_called
  exact_called name = exact_mapped (call_statement name) (exact_behind (codes "(") (exact_arguments part first) (some_text (exact_arguments part first) (begun_arguments part first)) refl)

  begun_called : (name : Named) → Begun (read_called expression name) opening
  unfolding read_called
  begun_called name = begun_mapped (call_statement name) (begun_behind (codes "(") (exact_arguments part first) (some_text (exact_arguments part first) (begun_arguments part first)) refl)

  -- what stands behind a name
  abbrev TargetAssigned : Named → List Token → Stmt → Type 0
  TargetAssigned name = Then (TargetFrom name) Assigned

  abbrev TargetAssignedDeep : Named → List Token → Token → Type 0
  TargetAssignedDeep name = ThenDeep (TargetFromDeep name) (TargetFrom name) (λ target. AssignedDeep)

  exact_target_assigned : (name : Named) → Exact (read_then (read_target_from expression name) (read_assigned expression)) (TargetAssigned name) (TargetAssignedDeep name) goes_on
  exact_target_assigned name = exact_next (exact_target_from name) exact_assigned begun_assigned (λ target. mark_no_index)

  index_no_opening : (t : Token) → index_opening t ≡ true → opening t ≡ false
  index_no_opening t e = not_symbol index_opening (codes "(") (λ line. refl) t e

  from_apart : (name : Named) (xs front back rest : List Token) (target : Expr) → xs ≡ front ++ back → TargetFrom name front target → begins opening (back ++ rest) ≡ false → begins opening (xs ++ rest) ≡ false
  from_apart name xs front back rest target e (one_way m) none =
      ap (begins opening) (ap (λ ys. ys ++ rest) e ∙ append_assoc front back rest)
      ∙ none_goes index_opening opening index_no_opening (front ++ (back ++ rest)) (member_begins (exact_elements name) (begun_elements name) front target (back ++ rest) m)
  from_apart name xs front back rest target e (other_way m) none = ap (λ ys. begins opening (ys ++ rest)) (e ∙ ap (λ ys. ys ++ back) m.nothing) ∙ none

  assigned_apart : (name : Named) (ys : List Token) (s : Stmt) (rest : List Token) → TargetAssigned name ys s → begins goes_on rest ≡ false → begins opening (ys ++ rest) ≡ false
  assigned_apart name ys s rest w free = from_apart name ys w.front w.back rest w.value w.split w.before
      (none_goes marks opening mark_no_opening (w.back ++ rest) (member_begins (exact_assigned w.value) (begun_assigned w.value) w.back s rest w.behind))

  assigned_apart_deep : (name : Named) (ys : List Token) (t : Token) (rest : List Token) → TargetAssignedDeep name ys t → begins opening (ys ++ (t ∷ rest)) ≡ false
  assigned_apart_deep name ys t rest (in_first (one_deep d)) = none_goes index_opening opening index_no_opening (ys ++ (t ∷ rest)) (deep_begins (exact_elements name) (begun_elements name) ys t rest d)
  assigned_apart_deep name ys t rest (in_first (other_deep d)) = nowhere ys t d
  assigned_apart_deep name ys t rest (in_second front back target e w d) = from_apart name ys front back (t ∷ rest) target e w
      (none_goes marks opening mark_no_opening (back ++ (t ∷ rest)) (deep_begins (exact_assigned target) (begun_assigned target) back t rest d))

  abbrev SimpleFrom : Named → List Token → Stmt → Type 0
  SimpleFrom name = Either (CallOf name) (TargetAssigned name)

  abbrev SimpleFromDeep : Named → List Token → Token → Type 0
  SimpleFromDeep name = EitherDeep CallDeep (TargetAssignedDeep name)

  exact_simple_from : (name : Named) → Exact (read_simple_from expression name) (SimpleFrom name) (SimpleFromDeep name) goes_on
  unfolding read_simple_from
  exact_simple_from name = exact_either opening (exact_closed goes_on (exact_called name)) (begun_called name) (exact_target_assigned name) (assigned_apart name) (assigned_apart_deep name)

  from_viable : (name : Named) → Viable (SimpleFrom name) []
  from_viable name = let v = some_text (exact_called name) (begun_called name) in record { more = v.more; value = v.value; member = one_way v.member }

  abbrev NamedSimple : List Token → Stmt → Type 0
  NamedSimple = Then (One name_at) SimpleFrom

  abbrev NamedSimpleDeep : List Token → Token → Type 0
  NamedSimpleDeep = ThenDeep Nowhere (One name_at) SimpleFromDeep

  exact_named_simple : Exact (read_then (read_one name_at) (read_simple_from expression)) NamedSimple NamedSimpleDeep goes_on
  exact_named_simple = exact_then exact_name exact_simple_from (λ name ys b rest w free. begins_never (ys ++ rest)) (λ name ys t rest d. begins_never (ys ++ (t ∷ rest))) from_viable

  begun_named_simple : Begun (read_then (read_one name_at) (read_simple_from expression)) (has name_at)
  begun_named_simple = begun_then exact_name exact_simple_from (λ name ys b rest w free. begins_never (ys ++ rest)) (λ name ys t rest d. begins_never (ys ++ (t ∷ rest))) from_viable (begun_one name_at)

  abbrev StarredSimple : List Token → Stmt → Type 0
  StarredSimple = Then Starred Assigned

  abbrev StarredSimpleDeep : List Token → Token → Type 0
  StarredSimpleDeep = ThenDeep StarredDeep Starred (λ target. AssignedDeep)

  exact_starred_simple : Exact (read_then (read_starred expression) (read_assigned expression)) StarredSimple StarredSimpleDeep goes_on
  exact_starred_simple = exact_next exact_starred exact_assigned begun_assigned (λ target t e. refl)

  begun_starred_simple : Begun (read_then (read_starred expression) (read_assigned expression)) star
  begun_starred_simple = begun_next exact_starred exact_assigned begun_assigned (λ target t e. refl) begun_starred

  abbrev Simple : List Token → Stmt → Type 0
  Simple = Either StepFirst (Either StarredSimple NamedSimple)

  abbrev SimpleDeep : List Token → Token → Type 0
  SimpleDeep = EitherDeep StepFirstDeep (EitherDeep StarredSimpleDeep NamedSimpleDeep)

  assigned_into : (xs front back : List Token) (target : Expr) (s : Stmt) → xs ≡ front ++ back → IsTarget front target → Assigned target back s → IsSimple xs s
  assigned_into xs front back target s e w (one_way m) = let is = step_is m.whole.token m.part m.whole.passes in
      subst (λ s. IsSimple xs s) (ap (λ k. stepped_by target (m.part.0, k)) is.at ∙ m.made)
      (stepped front m.whole.token m.part.0 (e ∙ ap (λ ys. front ++ ys) m.whole.only) is.what w)
  assigned_into xs front back target s e w (other_way m) =
      subst (λ s. IsSimple xs s) m.made (assigned front m.whole.token m.part.0 m.whole.back (e ∙ ap (λ ys. front ++ ys) m.whole.split) m.whole.passes w m.whole.behind)

  named_simple_into : (xs front back : List Token) (name : Named) (s : Stmt) → xs ≡ front ++ back → One name_at front name → SimpleFrom name back s → IsSimple xs s
  named_simple_into xs front back name s e n (one_way m) =
      let is = name_is n.token.what n.token.line name n.passes in let b = m.whole in let c = b.behind in
      subst (λ s. IsSimple xs s) (ap (λ k. record { what = stmts.Call name.name m.part; line = k }) (sym is.at) ∙ m.made)
      (called n.token b.mark name.name c.inner c.closed (e ∙ (ap (λ ys. ys ++ back) n.only ∙ ap (λ ys. n.token ∷ ys) (b.split ∙ ap (λ ys. b.mark ∷ ys) c.split))) is.what b.marks c.closes c.arguments)
  named_simple_into xs front back name s e n (other_way m) =
      assigned_into xs (front ++ m.front) m.back m.value s (e ∙ (ap (λ ys. front ++ ys) m.split ∙ sym (append_assoc front m.front m.back)))
      (named_into_by (front ++ m.front) front m.front name m.value refl n m.before) m.behind

  simple_into : (xs : List Token) (s : Stmt) → Simple xs s → IsSimple xs s
  simple_into xs s (one_way m) = let is = step_is m.whole.token m.part.0 m.whole.passes in
      subst (λ s. IsSimple xs s) (ap (λ k. step_before ((m.part.0.0, k), m.part.1)) is.at ∙ m.made)
      (step_first m.whole.token m.part.0.0 m.whole.back m.whole.split is.what m.whole.behind)
  simple_into xs s (other_way (one_way w)) = assigned_into xs w.front w.back w.value s w.split (starred_into w.front w.value w.before) w.behind
  simple_into xs s (other_way (other_way w)) = named_simple_into xs w.front w.back w.value s w.split w.before w.behind

  behind_target : (xs front back : List Token) (target : Expr) (s : Stmt) → xs ≡ front ++ back → Assigned target back s → Either Starred NamedTarget front target → Simple xs s
  behind_target xs front back target s e a (one_way w) = other_way (one_way (record { front = front; back = back; value = target; split = e; before = w; behind = a }))
  behind_target xs front back target s e a (other_way w) = other_way (other_way (record {
    front = w.front;
    back = w.back ++ back;
    value = w.value;
    split = e ∙ (ap (λ ys. ys ++ back) w.split ∙ append_assoc w.front w.back back);
    before = w.before;
    behind = other_way (record { front = w.back; back = back; value = target; split = refl; before = w.behind; behind = a });
  }))

  simple_back : (xs : List Token) (s : Stmt) → IsSimple xs s → Simple xs s
  simple_back xs s (assigned {target = target} {value = value} front mark operator back e a w v) =
      behind_target xs front (mark ∷ back) target s e
      (other_way (record { part = (operator, value); made = refl; whole = record { token = mark; back = back; split = refl; passes = a; behind = v } })) (target_back front target w)
  simple_back xs s (stepped {target = target} front mark operator e a w) =
      behind_target xs front (mark ∷ []) target s e
      (one_way (record { part = (operator, mark.line); made = refl; whole = record { token = mark; only = refl; passes = step_value mark operator a } })) (target_back front target w)
  simple_back xs s (step_first {target = target} mark operator back e a w) =
      one_way (record { part = ((operator, mark.line), target); made = refl; whole = record { token = mark; back = back; split = e; passes = step_value mark operator a; behind = w } })
  simple_back xs s (called {values = values} t opened word inner closed e n o c w) = other_way (other_way (record {
    front = t ∷ [];
    back = opened ∷ (inner ++ (closed ∷ []));
    value = record { name = word; line = t.line };
    split = e;
    before = name_one t word n;
    behind = one_way (record {
      part = values;
      made = refl;
      whole = record { mark = opened; back = inner ++ (closed ∷ []); split = refl; marks = o; behind = record { inner = inner; closed = closed; split = refl; closes = c; arguments = w } };
    });
  }))

  -- the places
  in_target : (xs : List Token) (t : Token) → IsExcessBehind OpensTarget X xs t → IsExcessBehind OpensSimple X xs t
  in_target xs t d = record { front = d.front; inner = d.inner; split = d.split; opens = simple_target d.opens; excess = d.excess }

  value_deeper : (xs front back : List Token) (target : Expr) (t : Token) → xs ≡ front ++ back → IsTarget front target → HeadedDeep assignment_at X back t → IsExcessBehind OpensSimple X xs t
  value_deeper xs front back target t e w d = record {
    front = front ++ (d.token ∷ []);
    inner = d.back;
    split = e ∙ (ap (λ ys. front ++ ys) d.split ∙ sym (append_assoc front (d.token ∷ []) d.back));
    opens = simple_value front d.token d.value refl w d.passes;
    excess = d.deep;
  }

  called_deeper : (xs front back : List Token) (name : Named) (t : Token) → xs ≡ front ++ back → One name_at front name → CallDeep back t → IsExcessBehind OpensSimple X xs t
  called_deeper xs front back name t e n d = on d.deep where
    what : n.token.what ≡ kinds.Name name.name
    what = (name_is n.token.what n.token.line name n.passes).what

    all : xs ≡ n.token ∷ d.opened ∷ d.inner
    all = e ∙ (ap (λ ys. ys ++ back) n.only ∙ ap (λ ys. n.token ∷ ys) d.split)

    on : ClosedDeep X d.inner t → IsExcessBehind OpensSimple X xs t
    on (first_argument x) = record { front = n.token ∷ d.opened ∷ []; inner = d.inner; split = all; opens = first_value n.token d.opened name.name refl what d.opens; excess = x }
    on (later_argument values before mark inner s w c x) = record {
      front = n.token ∷ d.opened ∷ (before ++ (mark ∷ []));
      inner = inner;
      split = all ∙ ap (λ ys. n.token ∷ d.opened ∷ ys) (s ∙ sym (append_assoc before (mark ∷ []) inner));
      opens = later_value n.token d.opened name.name before mark refl what d.opens w c;
      excess = x;
    }

  named_simple_deeper : (xs front back : List Token) (name : Named) (t : Token) → xs ≡ front ++ back → One name_at front name → SimpleFromDeep name back t → IsExcessBehind OpensSimple X xs t
  named_simple_deeper xs front back name t e n (one_deep d) = called_deeper xs front back name t e n d
  named_simple_deeper xs front back name t e n (other_deep (in_first d)) = in_target xs t (named_deeper xs t (in_second front back name e n d))
  named_simple_deeper xs front back name t e n (other_deep (in_second middle rest target s w (one_deep d))) = nowhere rest t d
  named_simple_deeper xs front back name t e n (other_deep (in_second middle rest target s w (other_deep d))) =
      value_deeper xs (front ++ middle) rest target t (e ∙ (ap (λ ys. front ++ ys) s ∙ sym (append_assoc front middle rest))) (named_into_by (front ++ middle) front middle name target refl n w) d

  simple_deeper : (xs : List Token) (t : Token) → SimpleDeep xs t → IsExcessBehind OpensSimple X xs t
  simple_deeper xs t (one_deep d) = let x = d.deep in let is = step_is d.token d.value d.passes in record {
    front = d.token ∷ x.front;
    inner = x.inner;
    split = d.split ∙ ap (λ ys. d.token ∷ ys) x.split;
    opens = stepped_target d.token d.value.0 x.front refl is.what x.opens;
    excess = x.excess;
  }
  simple_deeper xs t (other_deep (one_deep (in_first d))) = in_target xs t (starred_deeper xs t d)
  simple_deeper xs t (other_deep (one_deep (in_second front back target e w (one_deep d)))) = nowhere back t d
  simple_deeper xs t (other_deep (one_deep (in_second front back target e w (other_deep d)))) = value_deeper xs front back target t e (starred_into front target w) d
  simple_deeper xs t (other_deep (other_deep (in_first d))) = nowhere xs t d
  simple_deeper xs t (other_deep (other_deep (in_second front back name e n d))) = named_simple_deeper xs front back name t e n d

  target_in : (xs : List Token) (t : Token) → EitherDeep StarredDeep NamedTargetDeep xs t → SimpleDeep xs t
  target_in xs t (one_deep d) = other_deep (one_deep (in_first d))
  target_in xs t (other_deep (in_first d)) = nowhere xs t d
  target_in xs t (other_deep (in_second front back name e n d)) = other_deep (other_deep (in_second front back name e n (other_deep (in_first d))))

  value_in : (xs front back : List Token) (target : Expr) (t : Token) → xs ≡ front ++ back → HeadedDeep assignment_at X back t → Either Starred NamedTarget front target → SimpleDeep xs t
  value_in xs front back target t e d (one_way w) = other_deep (one_deep (in_second front back target e w (other_deep d)))
  value_in xs front back target t e d (other_way w) =
      other_deep (other_deep (in_second w.front (w.back ++ back) w.value (e ∙ (ap (λ ys. ys ++ back) w.split ∙ append_assoc w.front w.back back)) w.before
      (other_deep (in_second w.back back target refl w.behind (other_deep d)))))

  simple_upper_by : (xs before inner : List Token) (t : Token) → xs ≡ before ++ inner → X inner t → OpensSimple before → SimpleDeep xs t
  simple_upper_by xs before inner t e x (simple_target o) = target_in xs t (target_upper_by xs before inner t e x o)
  simple_upper_by xs before inner t e x (simple_value {target = target} front mark operator s w a) =
      value_in xs front (mark ∷ inner) target t (e ∙ (ap (λ ys. ys ++ inner) s ∙ append_assoc front (mark ∷ []) inner))
      (record { token = mark; back = inner; value = operator; split = refl; passes = a; deep = x }) (target_back front target w)
  simple_upper_by xs before inner t e x (stepped_target mark operator front s a o) = one_deep (record {
    token = mark;
    back = front ++ inner;
    value = (operator, mark.line);
    split = e ∙ ap (λ ys. ys ++ inner) s;
    passes = step_value mark operator a;
    deep = record { front = front; inner = inner; split = refl; opens = o; excess = x };
  })
  simple_upper_by xs before inner t e x (first_value n opened word s what o) =
      other_deep (other_deep (in_second (n ∷ []) (opened ∷ inner) (record { name = word; line = n.line }) (e ∙ ap (λ ys. ys ++ inner) s) (name_one n word what)
      (one_deep (record { opened = opened; inner = inner; split = refl; opens = o; deep = first_argument x }))))
  simple_upper_by xs before inner t e x (later_value {values = values} n opened word front mark s what o w c) =
      other_deep (other_deep (in_second (n ∷ []) (opened ∷ (front ++ (mark ∷ inner))) (record { name = word; line = n.line })
      (e ∙ (ap (λ ys. ys ++ inner) s ∙ ap (λ ys. n ∷ opened ∷ ys) (append_assoc front (mark ∷ []) inner))) (name_one n word what)
      (one_deep (record { opened = opened; inner = front ++ (mark ∷ inner); split = refl; opens = o; deep = later_argument values front mark inner refl w c x }))))

  simple_upper : (xs : List Token) (t : Token) → IsExcessBehind OpensSimple X xs t → SimpleDeep xs t
  simple_upper xs t w = simple_upper_by xs w.front w.inner t w.split w.excess w.opens

  others_no_step : (t : Token) → one_of star (has name_at) t ≡ true → has step_at t ≡ false
  others_no_step t e = not_step (one_of star (has name_at)) (λ line. refl) (λ line. refl) t e

  pub exact_simple : Exact (read_simple expression) IsSimple (IsExcessBehind OpensSimple X) goes_on
  unfolding read_simple
  exact_simple = exact_as simple_into simple_back simple_deeper simple_upper
      (exact_or (has step_at) (one_of star (has name_at)) exact_step_first begun_step_first
      (exact_or star (has name_at) exact_starred_simple begun_starred_simple exact_named_simple begun_named_simple name_no_star)
      (begun_either star begun_starred_simple begun_named_simple) others_no_step)

  pub begun_simple : Begun (read_simple expression) begins_simple
  unfolding read_simple
  begun_simple = begun_either (has step_at) begun_step_first (begun_either star begun_starred_simple begun_named_simple)
