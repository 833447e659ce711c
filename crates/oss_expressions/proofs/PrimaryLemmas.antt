-- Primary expressions are read exactly, if the expressions in them are.
use Rattle.std.proofs.Common.{◌≡◌, ℕ, suc, Bool, true, false, ◌||◌, List, [], ◌∷◌, ◌++◌, refl, sym, ap, ◌∙◌, subst, append_assoc, Some, is_some}
use Rattle.std.specs.Prelude.{codes}
use Rattle.oss_syntax.specs.declared.token.Token.{Token}
use Rattle.oss_syntax.specs.declared.token.TokenKind.{TokenKind}
use Rattle.oss_syntax.specs.declared.token.TokenKind.TheVariants as kinds
use Rattle.oss_syntax.specs.declared.tree.expr.Expr.{Expr}
use Rattle.oss_syntax.specs.declared.tree.expr.ExprKind.TheVariants as exprs
use Rattle.oss_grammar.specs.Expressions.{IsExpr, IsArguments, IsArgumentList, IsWhole, primary_level, loosest_level, prefix_of, operator_of}
use Rattle.oss_grammar.specs.Expressions.IsExpr.{number, name, call, brackets}
use Rattle.oss_grammar.specs.Expressions.IsArguments.{no_arguments, arguments}
use Rattle.oss_grammar.specs.Expressions.IsArgumentList.{last_argument, next_argument}
use Rattle.oss_grammar.specs.Fronts.{Viable}
use Rattle.oss_grammar.specs.Grammar.{One, Both, Mapped, Either}
use Rattle.oss_grammar.specs.Grammar.Either.{one_way, other_way}
use Rattle.oss_grammar.specs.Levels.{Begins}
use Rattle.oss_grammar.specs.Levels.Begins.{in_brackets, in_first_argument, in_later_argument}
use Rattle.oss_grammar.specs.OneToken.{IsOpen, IsClose, IsComma}
use Rattle.oss_grammar.specs.Reading.{Reader, begins, has, never, one_of, read_one, read_mapped, read_both, read_either, read_nothing}
use Rattle.oss_grammar.proofs.Parts.{Exact, Begun, exact_as, member_begins, deep_begins}
use Rattle.oss_grammar.proofs.PartLemmas.{Nowhere, nowhere, exact_one, begun_one, exact_nothing, Nothing, exact_mapped, begun_mapped, Then, ThenDeep, exact_then, begun_then, EitherDeep, exact_either, begun_either}
use Rattle.oss_grammar.proofs.PartLemmas.ThenDeep.{in_first, in_second}
use Rattle.oss_grammar.proofs.PartLemmas.EitherDeep.{one_deep, other_deep}
use Rattle.oss_grammar.proofs.PairLemmas.{exact_both, begun_both}
use Rattle.oss_grammar.proofs.StepLemmas.{none_goes}
use Rattle.oss_expressions.specs.declared.cursor.Named.{Named}
use Rattle.oss_expressions.specs.ExpressionReading.{latter, former, middle, named_expression, call_of, read_list, read_arguments, read_call, read_named, read_brackets, read_primary}
use Rattle.oss_expressions.specs.TokenValues.{symbol_at, name_at, number_at, named_in, number_in, begins_expression}
use Rattle.oss_expressions.proofs.ListLemmas.{comma, Listed, ListedDeep, exact_list, begun_list}
use Rattle.oss_expressions.proofs.ListLemmas.Listed.{last_part, next_part}
use Rattle.oss_expressions.proofs.ListLemmas.ListedDeep.{deep_first, deep_later}
use Rattle.oss_expressions.proofs.TokenLemmas.{goes_on, opening, closing, exact_symbol, exact_closed, begins_never, one_symbol, symbol_one, has_symbol, on_symbol, not_symbol}

-- arguments before the bracket that closes them
pub record Closed (xs : List Token) (values : List Expr) : Type 0 where
  pub inner : List Token
  pub closed : Token
  pub split : xs ≡ inner ++ (closed ∷ [])
  pub closes : IsClose closed
  pub arguments : IsArguments inner values

pub data ClosedDeep (B : List Token → Token → Type 0) (xs : List Token) (t : Token) : Type 0 where
  first_argument : B xs t → ClosedDeep B xs t
  later_argument : (values : List Expr) (before : List Token) (mark : Token) (front : List Token) → xs ≡ before ++ (mark ∷ front) → IsArgumentList before values → IsComma mark → B front t → ClosedDeep B xs t

-- a list of expressions is a list of arguments
pub listed_arguments : (xs : List Token) (values : List Expr) → Listed IsWhole xs values → IsArgumentList xs values
listed_arguments xs [] w = elim w [ ]
listed_arguments xs (a ∷ []) (last_part w) = last_argument w
listed_arguments xs (a ∷ more) (next_part front mark back e c w v) = next_argument front mark back e c w (listed_arguments back more v)

pub arguments_listed : (xs : List Token) (values : List Expr) → IsArgumentList xs values → Listed IsWhole xs values
arguments_listed xs [] w = elim w [ ]
arguments_listed xs (a ∷ []) (last_argument w) = last_part w
arguments_listed xs (a ∷ more) (next_argument front mark back e c w v) = next_part front mark back e c w (arguments_listed back more v)

module _ {inner : Reader Expr} {B : List Token → Token → Type 0} (part : Exact inner IsWhole B goes_on) (first : Begun inner begins_expression) where
  comma_ends : (t : Token) → comma t ≡ true → goes_on t ≡ false
  unfolding operator_of
  comma_ends t e = on_symbol goes_on (codes ",") false (λ line. refl) t (has_symbol (codes ",") t e)

  close_ends : (t : Token) → closing t ≡ true → one_of comma goes_on t ≡ false
  unfolding operator_of
  close_ends t e = on_symbol (one_of comma goes_on) (codes ")") false (λ line. refl) t (has_symbol (codes ")") t e)

  exact_close : Exact (read_one (symbol_at (codes ")"))) (One (symbol_at (codes ")"))) Nowhere never
  exact_close = exact_symbol (codes ")") refl never

  exact_open : Exact (read_one (symbol_at (codes "("))) (One (symbol_at (codes "("))) Nowhere never
  exact_open = exact_symbol (codes "(") refl never

  abbrev ListThenClose : List Token → List Expr → Type 0
  ListThenClose = Mapped former (Both (Listed IsWhole) (One (symbol_at (codes ")"))))

  abbrev ListThenCloseDeep : List Token → Token → Type 0
  ListThenCloseDeep = ThenDeep (ListedDeep IsWhole B) (Listed IsWhole) (λ values. Nowhere)

  exact_some : Exact (read_mapped former (read_both (read_list inner) (read_one (symbol_at (codes ")"))))) ListThenClose ListThenCloseDeep never
  exact_some = exact_mapped former (exact_both (exact_list part first comma_ends) exact_close (begun_one (symbol_at (codes ")"))) close_ends)

  begun_some : Begun (read_mapped former (read_both (read_list inner) (read_one (symbol_at (codes ")"))))) begins_expression
  begun_some = begun_mapped former (begun_both (exact_list part first comma_ends) exact_close (begun_one (symbol_at (codes ")"))) close_ends (begun_list part first comma_ends))

  not_close : (t : Token) → begins_expression t ≡ true → closing t ≡ false
  unfolding prefix_of
  not_close = not_symbol begins_expression (codes ")") (λ line. refl)

  into_closed : (xs : List Token) (values : List Expr) → Either (Mapped (λ line. []) (One (symbol_at (codes ")")))) ListThenClose xs values → Closed xs values
  into_closed xs values (one_way w) = record {
    inner = [];
    closed = w.whole.token;
    split = w.whole.only;
    closes = one_symbol (codes ")") xs w.part w.whole;
    arguments = subst (λ vs. IsArguments [] vs) w.made (no_arguments refl);
  }
  into_closed xs values (other_way w) = record {
    inner = w.whole.front;
    closed = w.whole.behind.token;
    split = w.whole.split ∙ ap (λ ys. w.whole.front ++ ys) w.whole.behind.only;
    closes = one_symbol (codes ")") w.whole.back w.part.1 w.whole.behind;
    arguments = subst (λ vs. IsArguments w.whole.front vs) w.made (arguments (listed_arguments w.whole.front w.part.0 w.whole.before));
  }

  closed_of : (xs inner : List Token) (closed : Token) (values : List Expr) → xs ≡ inner ++ (closed ∷ []) → IsClose closed → IsArguments inner values
      → Either (Mapped (λ line. []) (One (symbol_at (codes ")")))) ListThenClose xs values
  closed_of xs inner closed [] e c (no_arguments none) = one_way (record { part = closed.line; made = refl; whole = subst (λ ys. One (symbol_at (codes ")")) ys closed.line) (sym (e ∙ ap (λ ys. ys ++ (closed ∷ [])) none)) (symbol_one (codes ")") closed c) })
  closed_of xs inner closed values e c (arguments w) =
      other_way (record { part = (values, closed.line); made = refl; whole = record { front = inner; back = closed ∷ []; split = e; before = arguments_listed inner values w; behind = symbol_one (codes ")") closed c } })

  behind_one : (a : Expr) (front : List Token) (mark : Token) (xs back : List Token) (t : Token) → xs ≡ front ++ (mark ∷ back) → IsWhole front a → IsComma mark → ClosedDeep B back t → ClosedDeep B xs t
  behind_one a front mark xs back t e w c (first_argument d) = later_argument (a ∷ []) front mark back e (last_argument w) c d
  behind_one a front mark xs back t e w c (later_argument values before other rest z u k d) =
      later_argument (a ∷ values) (front ++ (mark ∷ before)) other rest (e ∙ (ap (λ ys. front ++ (mark ∷ ys)) z ∙ sym (append_assoc front (mark ∷ before) (other ∷ rest)))) (next_argument front mark before refl c w u) k d

  closed_deep : (xs : List Token) (t : Token) → ListedDeep IsWhole B xs t → ClosedDeep B xs t
  closed_deep xs t (deep_first d) = first_argument d
  closed_deep xs t (deep_later a front mark back e w c v) = behind_one a front mark xs back t e w c (closed_deep back t v)

  into_closed_deep : (xs : List Token) (t : Token) → EitherDeep Nowhere ListThenCloseDeep xs t → ClosedDeep B xs t
  into_closed_deep xs t (one_deep w) = nowhere xs t w
  into_closed_deep xs t (other_deep (in_second front back a e w d)) = nowhere back t d
  into_closed_deep xs t (other_deep (in_first w)) = closed_deep xs t w

  listed_deep : (values : List Expr) (before : List Token) (mark : Token) (front xs : List Token) (t : Token) → xs ≡ before ++ (mark ∷ front) → IsArgumentList before values → IsComma mark → B front t → ListedDeep IsWhole B xs t
  listed_deep (a ∷ []) before mark front xs t e (last_argument w) c d = deep_later a before mark front e w c (deep_first d)
  listed_deep (a ∷ more) before mark front xs t e (next_argument one other rest z k w v) c d =
      deep_later a one other (rest ++ (mark ∷ front)) (e ∙ (ap (λ ys. ys ++ (mark ∷ front)) z ∙ append_assoc one (other ∷ rest) (mark ∷ front))) w k (listed_deep more rest mark front (rest ++ (mark ∷ front)) t refl v c d)
  listed_deep [] before mark front xs t e w c d = elim w [ ]

  out_of_closed_deep : (xs : List Token) (t : Token) → ClosedDeep B xs t → EitherDeep Nowhere ListThenCloseDeep xs t
  out_of_closed_deep xs t (first_argument d) = other_deep (in_first (deep_first d))
  out_of_closed_deep xs t (later_argument values before mark front e w c d) = other_deep (in_first (listed_deep values before mark front xs t e w c d))

  pub exact_arguments : Exact (read_arguments inner) Closed (ClosedDeep B) never
  unfolding read_arguments
  exact_arguments = exact_as into_closed (λ xs values w. closed_of xs w.inner w.closed values w.split w.closes w.arguments) into_closed_deep out_of_closed_deep
      (exact_either closing (exact_mapped (λ line. []) exact_close) (begun_mapped (λ line. []) (begun_one (symbol_at (codes ")")))) exact_some
      (λ ys values rest w free. none_goes begins_expression closing not_close (ys ++ rest) (member_begins exact_some begun_some ys values rest w))
      (λ ys t rest w. none_goes begins_expression closing not_close (ys ++ (t ∷ rest)) (deep_begins exact_some begun_some ys t rest w)))

  pub begun_arguments : Begun (read_arguments inner) (one_of closing begins_expression)
  unfolding read_arguments
  begun_arguments = begun_either closing (begun_mapped (λ line. []) (begun_one (symbol_at (codes ")")))) begun_some

  -- a call behind its name
  record Called (named : Named) (xs : List Token) (e : Expr) : Type 0 where
    opened : Token
    rest : List Token
    values : List Expr
    split : xs ≡ opened ∷ rest
    opens : IsOpen opened
    made : call_of named values ≡ e
    inside : Closed rest values

  record CalledDeep (xs : List Token) (t : Token) : Type 0 where
    opened : Token
    rest : List Token
    split : xs ≡ opened ∷ rest
    opens : IsOpen opened
    inside : ClosedDeep B rest t

  abbrev CallParts : Named → List Token → Expr → Type 0
  CallParts named = Mapped (call_of named) (Mapped latter (Both (One (symbol_at (codes "("))) Closed))

  into_called : (named : Named) (xs : List Token) (e : Expr) → CallParts named xs e → Called named xs e
  into_called named xs e w = let both = w.whole.whole in record {
    opened = both.before.token;
    rest = both.back;
    values = w.part;
    split = both.split ∙ ap (λ ys. ys ++ both.back) both.before.only;
    opens = one_symbol (codes "(") both.front w.whole.part.0 both.before;
    made = w.made;
    inside = subst (λ vs. Closed both.back vs) w.whole.made both.behind;
  }

  out_of_called : (named : Named) (xs : List Token) (e : Expr) → Called named xs e → CallParts named xs e
  out_of_called named xs e w = record {
    part = w.values;
    made = w.made;
    whole = record { part = (w.opened.line, w.values); made = refl; whole = record { front = w.opened ∷ []; back = w.rest; split = w.split; before = symbol_one (codes "(") w.opened w.opens; behind = w.inside } };
  }

  into_called_deep : (xs : List Token) (t : Token) → ThenDeep Nowhere (One (symbol_at (codes "("))) (λ line. ClosedDeep B) xs t → CalledDeep xs t
  into_called_deep xs t (in_first w) = nowhere xs t w
  into_called_deep xs t (in_second front back line e w d) = record { opened = w.token; rest = back; split = e ∙ ap (λ ys. ys ++ back) w.only; opens = one_symbol (codes "(") front line w; inside = d }

  out_of_called_deep : (xs : List Token) (t : Token) → CalledDeep xs t → ThenDeep Nowhere (One (symbol_at (codes "("))) (λ line. ClosedDeep B) xs t
  out_of_called_deep xs t w = in_second (w.opened ∷ []) w.rest w.opened.line w.split (symbol_one (codes "(") w.opened w.opens) w.inside

  exact_call : (named : Named) → Exact (read_call inner named) (Called named) CalledDeep never
  unfolding read_call
  exact_call named = exact_as (into_called named) (out_of_called named) into_called_deep out_of_called_deep
      (exact_mapped (call_of named) (exact_mapped latter (exact_both exact_open exact_arguments begun_arguments (λ t e. refl))))

  begun_call : (named : Named) → Begun (read_call inner named) opening
  unfolding read_call
  begun_call named = begun_mapped (call_of named) (begun_mapped latter (begun_both exact_open exact_arguments begun_arguments (λ t e. refl) (begun_one (symbol_at (codes "(")))))

  -- a name, with or without a call behind it
  some_name : Token
  some_name = record { what = kinds.Name []; line = 1 }

  exact_name : Exact (read_one name_at) (One name_at) Nowhere never
  unfolding some_name
  exact_name = exact_one name_at some_name (record { name = []; line = 1 }) refl never

  abbrev NamedTail : Named → List Token → Expr → Type 0
  NamedTail named = Either (Called named) (Nothing (named_expression named))

  exact_tail : (named : Named) → Exact (read_either opening (read_call inner named) (read_nothing (named_expression named))) (NamedTail named) (EitherDeep CalledDeep Nowhere) opening
  exact_tail named = exact_either opening (exact_closed opening (exact_call named)) (begun_call named) (exact_nothing (named_expression named) opening)
      (λ ys e rest w free. ap (λ zs. begins opening (zs ++ rest)) w.nothing ∙ free) (λ ys t rest w. nowhere ys t w)

  some_tail : (named : Named) → Viable (NamedTail named) []
  some_tail named = record { more = []; value = named_expression named; member = other_way (record { nothing = refl; same = refl }) }

  exact_named : Exact (read_named inner) (Then (One name_at) NamedTail) (ThenDeep Nowhere (One name_at) (λ named. EitherDeep CalledDeep Nowhere)) opening
  unfolding read_named
  exact_named = exact_then exact_name exact_tail (λ named ys e rest w free. begins_never (ys ++ rest)) (λ named ys t rest w. begins_never (ys ++ (t ∷ rest))) some_tail

  begun_named : Begun (read_named inner) (has name_at)
  unfolding read_named
  begun_named = begun_then exact_name exact_tail (λ named ys e rest w free. begins_never (ys ++ rest)) (λ named ys t rest w. begins_never (ys ++ (t ∷ rest))) some_tail (begun_one name_at)

  -- an expression in brackets
  closing_ends : (t : Token) → closing t ≡ true → goes_on t ≡ false
  unfolding operator_of
  closing_ends t e = on_symbol goes_on (codes ")") false (λ line. refl) t (has_symbol (codes ")") t e)

  abbrev BracketParts : List Token → Expr → Type 0
  BracketParts = Mapped middle (Both (One (symbol_at (codes "("))) (Both IsWhole (One (symbol_at (codes ")")))))

  abbrev BracketDeep : List Token → Token → Type 0
  BracketDeep = ThenDeep Nowhere (One (symbol_at (codes "("))) (λ line. ThenDeep B IsWhole (λ e. Nowhere))

  exact_inside : Exact (read_both inner (read_one (symbol_at (codes ")")))) (Both IsWhole (One (symbol_at (codes ")")))) (ThenDeep B IsWhole (λ e. Nowhere)) never
  exact_inside = exact_both part exact_close (begun_one (symbol_at (codes ")"))) closing_ends

  begun_inside : Begun (read_both inner (read_one (symbol_at (codes ")")))) begins_expression
  begun_inside = begun_both part exact_close (begun_one (symbol_at (codes ")"))) closing_ends first

  exact_brackets : Exact (read_brackets inner) BracketParts BracketDeep never
  unfolding read_brackets
  exact_brackets = exact_mapped middle (exact_both exact_open exact_inside begun_inside (λ t e. refl))

  begun_brackets : Begun (read_brackets inner) opening
  unfolding read_brackets
  begun_brackets = begun_mapped middle (begun_both exact_open exact_inside begun_inside (λ t e. refl) (begun_one (symbol_at (codes "("))))

  -- a number, a name with or without a call, or brackets
  not_name : (t : Token) → opening t ≡ true → has name_at t ≡ false
  not_name t e = on_symbol (has name_at) (codes "(") false (λ line. refl) t (has_symbol (codes "(") t e)

  not_number : (t : Token) → one_of (has name_at) opening t ≡ true → has number_at t ≡ false
  not_number t e = on t.what e where
    on : (k : TokenKind) → (is_some (named_in k t.line) || is_some (symbol_at (codes "(") (record { what = k; line = t.line }))) ≡ true → is_some (number_in k t.line) ≡ false
    on (kinds.Name w) e = refl
    on (kinds.Symbol w) e = refl
    on (kinds.Keyword w) e = refl
    on (kinds.Number v u) e = absurd (cc)
    on (kinds.Text w) e = refl
    on kinds.PragmaOss e = refl
    on kinds.PragmaEnd e = refl
    on kinds.Directive e = refl

  abbrev OtherParts : List Token → Expr → Type 0
  OtherParts = Either (Then (One name_at) NamedTail) BracketParts

  abbrev OtherDeep : List Token → Token → Type 0
  OtherDeep = EitherDeep (ThenDeep Nowhere (One name_at) (λ named. EitherDeep CalledDeep Nowhere)) BracketDeep

  exact_other : Exact (read_either (has name_at) (read_named inner) (read_brackets inner)) OtherParts OtherDeep opening
  exact_other = exact_either (has name_at) exact_named begun_named (exact_closed opening exact_brackets)
      (λ ys e rest w free. none_goes opening (has name_at) not_name (ys ++ rest) (member_begins exact_brackets begun_brackets ys e rest w))
      (λ ys t rest w. none_goes opening (has name_at) not_name (ys ++ (t ∷ rest)) (deep_begins exact_brackets begun_brackets ys t rest w))

  begun_other : Begun (read_either (has name_at) (read_named inner) (read_brackets inner)) (one_of (has name_at) opening)
  begun_other = begun_either (has name_at) begun_named begun_brackets

  some_number : Token
  some_number = record { what = kinds.Number 0 false; line = 1 }

  exact_number : Exact (read_one number_at) (One number_at) Nowhere opening
  unfolding some_number
  exact_number = exact_one number_at some_number (record { what = exprs.Number 0 false; line = 1 }) refl opening

  exact_parts : Exact (read_primary inner) (Either (One number_at) OtherParts) (EitherDeep Nowhere OtherDeep) opening
  unfolding read_primary
  exact_parts = exact_either (has number_at) exact_number (begun_one number_at) exact_other
      (λ ys e rest w free. none_goes (one_of (has name_at) opening) (has number_at) not_number (ys ++ rest) (member_begins exact_other begun_other ys e rest w))
      (λ ys t rest w. none_goes (one_of (has name_at) opening) (has number_at) not_number (ys ++ (t ∷ rest)) (deep_begins exact_other begun_other ys t rest w))

  pub begun_primary : Begun (read_primary inner) (one_of (has number_at) (one_of (has name_at) opening))
  unfolding read_primary
  begun_primary = begun_either (has number_at) (begun_one number_at) begun_other

-- what a number and a name are
record NumberIs (k : TokenKind) (line : ℕ) (e : Expr) : Type 0 where
  value : ℕ
  unsigned : Bool
  what : k ≡ kinds.Number value unsigned
  made : record { what = exprs.Number value unsigned; line = line } ≡ e

number_is : (k : TokenKind) (line : ℕ) (e : Expr) → number_in k line ≡ Some e → NumberIs k line e
number_is (kinds.Number v u) line e told = record { value = v; unsigned = u; what = refl; made = some_is (record { what = exprs.Number v u; line = line }) e told } where
  some_is : (a b : Expr) → Some a ≡ Some b → a ≡ b
  some_is a b e = cc
number_is (kinds.Name w) line e told = absurd (cc)
number_is (kinds.Symbol w) line e told = absurd (cc)
number_is (kinds.Keyword w) line e told = absurd (cc)
number_is (kinds.Text w) line e told = absurd (cc)
number_is kinds.PragmaOss line e told = absurd (cc)
number_is kinds.PragmaEnd line e told = absurd (cc)
number_is kinds.Directive line e told = absurd (cc)

pub record NameIs (k : TokenKind) (line : ℕ) (named : Named) : Type 0 where
  pub what : k ≡ kinds.Name named.name
  pub at : named.line ≡ line

pub name_is : (k : TokenKind) (line : ℕ) (named : Named) → named_in k line ≡ Some named → NameIs k line named
name_is (kinds.Name w) line named told = let same : record { name = w; line = line } ≡ named = some_is (record { name = w; line = line }) named told in
    record { what = ap (λ (m : Named). kinds.Name m.name) same; at = ap (λ (m : Named). m.line) (sym same) } where
      some_is : (a b : Named) → Some a ≡ Some b → a ≡ b
      some_is a b e = cc
name_is (kinds.Number v u) line named told = absurd (cc)
name_is (kinds.Symbol w) line named told = absurd (cc)
name_is (kinds.Keyword w) line named told = absurd (cc)
name_is (kinds.Text w) line named told = absurd (cc)
name_is kinds.PragmaOss line named told = absurd (cc)
name_is kinds.PragmaEnd line named told = absurd (cc)
name_is kinds.Directive line named told = absurd (cc)

pub name_value : (t : Token) (word : List ℕ) → t.what ≡ kinds.Name word → name_at t ≡ Some (record { name = word; line = t.line })
name_value t word e = rw e refl

pub name_one : (t : Token) (word : List ℕ) → t.what ≡ kinds.Name word → One name_at (t ∷ []) (record { name = word; line = t.line })
name_one t word e = record { token = t; only = refl; passes = name_value t word e }

number_one : (t : Token) (value : ℕ) (unsigned : Bool) → t.what ≡ kinds.Number value unsigned → One number_at (t ∷ []) (record { what = exprs.Number value unsigned; line = t.line })
number_one t value unsigned e = record { token = t; only = refl; passes = rw e refl }

module _ {inner : Reader Expr} {n : ℕ} (part : Exact inner IsWhole (Begins loosest_level n) goes_on) (first : Begun inner begins_expression) where
  named_is : (xs back : List Token) (t : Token) (named : Named) (e : Expr) → NameIs t.what t.line named → xs ≡ t ∷ back → NamedTail part first named back e → IsExpr primary_level xs e
  named_is xs back t named e is split (one_way w) =
      let c = w.inside in
      let all : xs ≡ t ∷ w.opened ∷ (c.inner ++ (c.closed ∷ [])) = split ∙ ap (λ ys. t ∷ ys) (w.split ∙ ap (λ ys. w.opened ∷ ys) c.split) in
      let same : record { what = exprs.Call named.name w.values; line = t.line } ≡ e = ap (λ line. record { what = exprs.Call named.name w.values; line = line }) (sym is.at) ∙ w.made in
      subst (λ x. IsExpr primary_level xs x) same (call t w.opened c.closed named.name c.inner all is.what w.opens c.closes c.arguments)
  named_is xs back t named e is split (other_way w) =
      let same : record { what = exprs.Name named.name; line = t.line } ≡ e = ap (λ line. record { what = exprs.Name named.name; line = line }) (sym is.at) ∙ w.same in
      subst (λ x. IsExpr primary_level xs x) same (name t named.name (split ∙ ap (λ ys. t ∷ ys) w.nothing) is.what)

  into_primary : (xs : List Token) (e : Expr) → Either (One number_at) (OtherParts part first) xs e → IsExpr primary_level xs e
  into_primary xs e (one_way w) = let v = number_is w.token.what w.token.line e w.passes in
      subst (λ x. IsExpr primary_level xs x) v.made (number w.token v.value v.unsigned w.only v.what)
  into_primary xs e (other_way (one_way w)) =
      named_is xs w.back w.before.token w.value e (name_is w.before.token.what w.before.token.line w.value w.before.passes) (w.split ∙ ap (λ ys. ys ++ w.back) w.before.only) w.behind
  into_primary xs e (other_way (other_way w)) =
      let outer = w.whole in let inside = outer.behind in
      let all : xs ≡ outer.before.token ∷ (inside.front ++ (inside.behind.token ∷ []))
      = outer.split ∙ (ap (λ ys. ys ++ outer.back) outer.before.only ∙ ap (λ ys. outer.before.token ∷ ys) (inside.split ∙ ap (λ ys. inside.front ++ ys) inside.behind.only)) in
      subst (λ x. IsExpr primary_level xs x) w.made
      (brackets outer.before.token inside.behind.token inside.front all (one_symbol (codes "(") outer.front w.part.0 outer.before) (one_symbol (codes ")") inside.back w.part.1.1 inside.behind) inside.before)

  out_of_primary : (xs : List Token) (e : Expr) → IsExpr primary_level xs e → Either (One number_at) (OtherParts part first) xs e
  out_of_primary xs e (number t value unsigned split what) = one_way (subst (λ ys. One number_at ys (record { what = exprs.Number value unsigned; line = t.line })) (sym split) (number_one t value unsigned what))
  out_of_primary xs e (name t word split what) = other_way (one_way (record {
    front = t ∷ [];
    back = [];
    value = record { name = word; line = t.line };
    split = split;
    before = name_one t word what;
    behind = other_way (record { nothing = refl; same = refl });
  }))
  out_of_primary xs e (call {values = values} t opened closed word inner split what opens closes more) = other_way (one_way (record {
    front = t ∷ [];
    back = opened ∷ (inner ++ (closed ∷ []));
    value = record { name = word; line = t.line };
    split = split;
    before = name_one t word what;
    behind = one_way (record { opened = opened; rest = inner ++ (closed ∷ []); values = values; split = refl; opens = opens; made = refl; inside = record { inner = inner; closed = closed; split = refl; closes = closes; arguments = more } });
  }))
  out_of_primary xs e (brackets opened closed inner split opens closes w) = other_way (other_way (record {
    part = (opened.line, (e, closed.line));
    made = refl;
    whole = record {
      front = opened ∷ [];
      back = inner ++ (closed ∷ []);
      split = split;
      before = symbol_one (codes "(") opened opens;
      behind = record { front = inner; back = closed ∷ []; split = refl; before = w; behind = symbol_one (codes ")") closed closes };
    };
  }))

  called_begins : (xs back : List Token) (t u : Token) (named : Named) → NameIs t.what t.line named → xs ≡ t ∷ back → CalledDeep part first back u → Begins primary_level (suc n) xs u
  called_begins xs back t u named is split w = on w.inside where
    all : xs ≡ t ∷ w.opened ∷ w.rest
    all = split ∙ ap (λ ys. t ∷ ys) w.split

    on : ClosedDeep (Begins loosest_level n) w.rest u → Begins primary_level (suc n) xs u
    on (first_argument d) = in_first_argument t w.opened named.name w.rest all is.what w.opens d
    on (later_argument values before mark front e v c d) = in_later_argument t w.opened named.name before mark front (all ∙ ap (λ ys. t ∷ w.opened ∷ ys) e) is.what w.opens v c d

  into_primary_deep : (xs : List Token) (t : Token) → EitherDeep Nowhere (OtherDeep part first) xs t → Begins primary_level (suc n) xs t
  into_primary_deep xs t (one_deep w) = nowhere xs t w
  into_primary_deep xs t (other_deep (one_deep (in_first w))) = nowhere xs t w
  into_primary_deep xs t (other_deep (one_deep (in_second front back named e w (other_deep d)))) = nowhere back t d
  into_primary_deep xs t (other_deep (one_deep (in_second front back named e w (one_deep d)))) =
      called_begins xs back w.token t named (name_is w.token.what w.token.line named w.passes) (e ∙ ap (λ ys. ys ++ back) w.only) d
  into_primary_deep xs t (other_deep (other_deep (in_first w))) = nowhere xs t w
  into_primary_deep xs t (other_deep (other_deep (in_second front back line e w (in_second inner rest a z v d)))) = nowhere rest t d
  into_primary_deep xs t (other_deep (other_deep (in_second front back line e w (in_first d)))) = in_brackets w.token back (e ∙ ap (λ ys. ys ++ back) w.only) (one_symbol (codes "(") front line w) d

  out_of_primary_deep : (xs : List Token) (t : Token) → Begins primary_level (suc n) xs t → EitherDeep Nowhere (OtherDeep part first) xs t
  out_of_primary_deep xs t (in_brackets opened front e opens d) = other_deep (other_deep (in_second (opened ∷ []) front opened.line e (symbol_one (codes "(") opened opens) (in_first d)))
  out_of_primary_deep xs t (in_first_argument named opened word front e what opens d) =
      other_deep (one_deep (in_second (named ∷ []) (opened ∷ front) (record { name = word; line = named.line }) e (name_one named word what)
      (one_deep (record { opened = opened; rest = front; split = refl; opens = opens; inside = first_argument d }))))
  out_of_primary_deep xs t (in_later_argument {values = values} named opened word before mark front e what opens v c d) =
      other_deep (one_deep (in_second (named ∷ []) (opened ∷ (before ++ (mark ∷ front))) (record { name = word; line = named.line }) e (name_one named word what)
      (one_deep (record { opened = opened; rest = before ++ (mark ∷ front); split = refl; opens = opens; inside = later_argument values before mark front refl v c d }))))

  pub exact_primary : Exact (read_primary inner) (IsExpr primary_level) (Begins primary_level (suc n)) opening
  exact_primary = exact_as into_primary out_of_primary into_primary_deep out_of_primary_deep (exact_parts part first)
