-- Expressions are read exactly, with so many levels, and with the limits that the language has; and tokens stand for one expression
-- at most.
use Rattle.std.proofs.Common.{arith, ◌≡◌, ◌≤◌, ◌<◌, ◌+◌, ◌==◌, if◌then◌else◌, ℕ, zero, suc, Bool, true, false, ◌||◌, List, [], ◌∷◌, ◌++◌, length, refl, sym, ap, ◌∙◌, subst, append_assoc, Option, Some, None, is_some, Err}
use Rattle.std.specs.Prelude.{codes}
use Rattle.std.proofs.lemmas.Bool.Decides.{nat_tests}
use Rattle.std.proofs.lemmas.List.{length-append}
use Rattle.oss_syntax.specs.declared.token.Token.{Token}
use Rattle.oss_syntax.specs.declared.token.TokenKind.{TokenKind}
use Rattle.oss_syntax.specs.declared.token.TokenKind.TheVariants as kinds
use Rattle.oss_syntax.specs.declared.tree.expr.BinOp.{BinOp}
use Rattle.oss_syntax.specs.declared.tree.expr.BinOp.TheVariants as op
use Rattle.oss_syntax.specs.declared.tree.expr.Expr.{Expr}
use Rattle.oss_syntax.specs.declared.tree.expr.ExprKind.TheVariants as exprs
use Rattle.oss_syntax.specs.declared.tree.expr.UnOp.{UnOp}
use Rattle.oss_grammar.specs.Expressions.{IsExpr, IsWhole, primary_level, prefix_level, loosest_level, prefix_of, operator_of}
use Rattle.oss_grammar.specs.Expressions.IsExpr.{number, name, call, brackets, indexed, indexed_again, prefixed, joined, tighter}
use Rattle.oss_grammar.specs.Expressions.IsIndexed.{index}
use Rattle.oss_grammar.specs.Fronts.{Viable}
use Rattle.oss_grammar.specs.Levels.{Begins, IsExpressionExcess, is_operator}
use Rattle.oss_grammar.specs.Levels.Begins.{at_once, in_brackets, in_first_argument, in_later_argument, in_index, in_second_index, under_prefix, on_the_right, in_tighter}
use Rattle.oss_grammar.specs.Levels.IsExpressionExcess.{too_deep, too_long}
use Rattle.oss_grammar.specs.OneToken.{is_symbol, IsOpen}
use Rattle.oss_grammar.specs.Reading.{Reader, begins, has, one_of, read_then, read_too_deep}
use Rattle.oss_grammar.specs.Reading.Stop.{Syntax}
use Rattle.oss_grammar.specs.Refusals.{HasOneValue}
use Rattle.oss_grammar.proofs.AnswerLemmas.{one_value}
use Rattle.oss_grammar.proofs.CountedLemmas.{CountedDeep, exact_counted, begun_counted}
use Rattle.oss_grammar.proofs.CountedLemmas.CountedDeep.{in_part, one_more}
use Rattle.oss_grammar.proofs.Parts.{Exact, Begun, exact_as, exact_before, exact_same}
use Rattle.oss_grammar.proofs.PartLemmas.{exact_too_deep, begun_too_deep}
use Rattle.oss_grammar.proofs.StepLemmas.{fewer_go}
use Rattle.oss_expressions.specs.ExpressionReading.{read_prefixed, read_levels, read_operations, read_unary, read_whole, read_expression}
use Rattle.oss_expressions.specs.TokenValues.{symbol_at, name_at, number_at, prefix_at, named_in, number_in, signed_in, operator_at, of_level, begins_expression}
use Rattle.oss_expressions.proofs.LevelLemmas.{exact_level, begun_level}
use Rattle.oss_expressions.proofs.OperandLemmas.{tight, exact_prefixed, begun_prefixed}
use Rattle.oss_expressions.proofs.TokenLemmas.{goes_on, opening, index_opening, not_symbol}

-- the expressions that begin with a token that begins one
lift : (c k : ℕ) (xs : List Token) (e : Expr) → IsExpr k xs e → IsExpr (c + k) xs e
lift zero k xs e w = subst (λ n. IsExpr n xs e) (omega arith) w
lift (suc c) k xs e w = let more : IsExpr (c + k) xs e = lift c k xs e w in subst (λ n. IsExpr n xs e) (omega arith) (tighter more)

zero_token : Token
zero_token = record { what = kinds.Number 0 false; line = 1 }

zero_tree : Expr
zero_tree = record { what = exprs.Number 0 false; line = 1 }

is_zero : IsExpr primary_level (zero_token ∷ []) zero_tree
unfolding zero_token zero_tree
is_zero = number zero_token 0 false refl refl

close_token : Token
close_token = record { what = kinds.Symbol (codes ")"); line = 1 }

viable_lifted : (c k : ℕ) (xs : List Token) → Viable (IsExpr k) xs → Viable (IsExpr (c + k)) xs
viable_lifted c k xs v = record { more = v.more; value = v.value; member = lift c k (xs ++ v.more) v.value v.member }

record Starting (t : Token) : Type 0 where
  viable : Viable (IsExpr prefix_level) (t ∷ [])

starts_unary : (t : Token) → begins_expression t ≡ true → Viable (IsExpr prefix_level) (t ∷ [])
unfolding close_token
starts_unary t e = on t.what refl e where
  primary : (more : List Token) (tree : Expr) → IsExpr primary_level (t ∷ more) tree → Viable (IsExpr prefix_level) (t ∷ [])
  primary more tree w = record { more = more; value = tree; member = tighter (tighter w) }

  signed : (sign : UnOp) → prefix_of t.what ≡ Some sign → Viable (IsExpr prefix_level) (t ∷ [])
  signed sign is = record { more = zero_token ∷ []; value = _; member = prefixed t sign (zero_token ∷ []) refl is (tighter (tighter is_zero)) }

  prefix_case : (line : ℕ) (o : Option UnOp) → prefix_of t.what ≡ o → is_some (signed_in line o) ≡ true → Viable (IsExpr prefix_level) (t ∷ [])
  prefix_case line None is e = absurd (cc)
  prefix_case line (Some sign) is e = signed sign is

  symbol : (w : List ℕ) → t.what ≡ kinds.Symbol w → (b : Bool) → is_symbol (codes "(") (kinds.Symbol w) ≡ b → (b || is_some (signed_in t.line (prefix_of (kinds.Symbol w)))) ≡ true → Viable (IsExpr prefix_level) (t ∷ [])
  symbol w is true opened e =
      let opens : IsOpen t = ap (is_symbol (codes "(")) is ∙ opened in
      primary (zero_token ∷ close_token ∷ []) zero_tree (brackets t close_token (zero_token ∷ []) refl opens refl (lift 12 primary_level (zero_token ∷ []) zero_tree is_zero))
  symbol w is false opened e = prefix_case t.line (prefix_of t.what) refl (ap (λ k. is_some (signed_in t.line (prefix_of k))) is ∙ e)

  on : (k : TokenKind) → t.what ≡ k
      → (is_some (number_in k t.line) || (is_some (named_in k t.line) || (is_symbol (codes "(") k || is_some (signed_in t.line (prefix_of k))))) ≡ true → Viable (IsExpr prefix_level) (t ∷ [])
  on (kinds.Name w) is e = primary [] _ (name t w refl is)
  on (kinds.Number v u) is e = primary [] _ (number t v u refl is)
  on (kinds.Symbol w) is e = symbol w is (is_symbol (codes "(") (kinds.Symbol w)) refl e
  on (kinds.Keyword w) is e = prefix_case t.line (prefix_of t.what) refl (ap (λ k. is_some (signed_in t.line (prefix_of k))) is ∙ e)
  on (kinds.Text w) is e = prefix_case t.line (prefix_of t.what) refl (ap (λ k. is_some (signed_in t.line (prefix_of k))) is ∙ e)
  on kinds.PragmaOss is e = prefix_case t.line (prefix_of t.what) refl (ap (λ k. is_some (signed_in t.line (prefix_of k))) is ∙ e)
  on kinds.PragmaEnd is e = prefix_case t.line (prefix_of t.what) refl (ap (λ k. is_some (signed_in t.line (prefix_of k))) is ∙ e)
  on kinds.Directive is e = prefix_case t.line (prefix_of t.what) refl (ap (λ k. is_some (signed_in t.line (prefix_of k))) is ∙ e)

-- an expression begins so
begins_more : (test : Token → Bool) (xs ys : List Token) → begins test xs ≡ true → begins test (xs ++ ys) ≡ true
begins_more test [] ys e = absurd (cc)
begins_more test (x ∷ xs) ys e = e

or_third : (a b c d : Bool) → c ≡ true → (a || (b || (c || d))) ≡ true
or_third true b c d e = refl
or_third false true c d e = refl
or_third false false true d e = refl
or_third false false false d e = absurd (cc)

or_fourth : (a b c d : Bool) → d ≡ true → (a || (b || (c || d))) ≡ true
or_fourth true b c d e = refl
or_fourth false true c d e = refl
or_fourth false false true d e = refl
or_fourth false false false d e = e

first_token : (k : ℕ) (xs : List Token) (e : Expr) → IsExpr k xs e → begins begins_expression xs ≡ true
first_token k xs e (number t value unsigned split is) = ap (begins begins_expression) split ∙ ap (λ w. begins_expression (record { what = w; line = t.line })) is
first_token k xs e (name t word split is) = ap (begins begins_expression) split ∙ ap (λ w. begins_expression (record { what = w; line = t.line })) is
first_token k xs e (call t opened closed word inner split is opens closes more) = ap (begins begins_expression) split ∙ ap (λ w. begins_expression (record { what = w; line = t.line })) is
first_token k xs e (brackets opened closed inner split opens closes w) =
    ap (begins begins_expression) split ∙ or_third (is_some (number_at opened)) (is_some (name_at opened)) (is_symbol (codes "(") opened.what) (is_some (prefix_at opened)) opens
first_token k xs e (indexed (index front opened closed inner split opens closes base w)) = ap (begins begins_expression) split ∙ begins_more begins_expression front (opened ∷ (inner ++ (closed ∷ []))) (first_token primary_level front _ base)
first_token k xs e (indexed_again front opened closed inner split opens closes (index before one two between cut starts ends base v) w) =
    ap (begins begins_expression) split ∙ begins_more begins_expression front (opened ∷ (inner ++ (closed ∷ [])))
    (ap (begins begins_expression) cut ∙ begins_more begins_expression before (one ∷ (between ++ (two ∷ []))) (first_token primary_level before _ base))
first_token k xs e (prefixed t sign operand split is w) =
    ap (begins begins_expression) split ∙ or_fourth (is_some (number_at t)) (is_some (name_at t)) (is_symbol (codes "(") t.what) (is_some (prefix_at t)) (ap (λ o. is_some (signed_in t.line o)) is)
first_token k xs e (joined {k = m} front t operator back split is a b) = ap (begins begins_expression) split ∙ begins_more begins_expression front (t ∷ back) (first_token (suc m) front _ a)
first_token k xs e (tighter {k = m} w) = first_token m xs e w

-- with no level left
begun_at_none : (k : ℕ) (xs : List Token) (t : Token) → Begins k 0 xs t → Viable (IsExpr k) (xs ++ (t ∷ []))
begun_at_none k xs t (at_once none v) = subst (λ ys. Viable (IsExpr k) (ys ++ (t ∷ []))) (sym none) v
begun_at_none k xs t (on_the_right {k = m} {left = left} before o operator front split is w d) = let v = begun_at_none m front t d in record {
  more = v.more;
  value = _;
  member = joined before o operator ((front ++ (t ∷ [])) ++ v.more) (ap (λ ys. (ys ++ (t ∷ [])) ++ v.more) split ∙ (ap (λ ys. ys ++ v.more) (append_assoc before (o ∷ front) (t ∷ [])) ∙ append_assoc before (o ∷ (front ++ (t ∷ []))) v.more)) is w v.member;
}
begun_at_none k xs t (in_tighter {k = m} d) = let v = begun_at_none m xs t d in record { more = v.more; value = v.value; member = tighter v.member }

viable_begins : (k : ℕ) (xs : List Token) (t : Token) → Viable (IsExpr k) (xs ++ (t ∷ [])) → begins begins_expression (xs ++ (t ∷ [])) ≡ true
viable_begins k [] t v = first_token k (t ∷ v.more) v.value v.member
viable_begins k (x ∷ xs) t v = first_token k ((x ∷ (xs ++ (t ∷ []))) ++ v.more) v.value v.member

exact_none : (c : ℕ) (goes : Token → Bool) → Exact (read_too_deep begins_expression) (IsExpr (c + 2)) (Begins (c + 2) 0) goes
exact_none c goes = exact_too_deep begins_expression (λ t e. at_once refl (viable_lifted c prefix_level (t ∷ []) (starts_unary t e)))
    (viable_lifted c prefix_level [] (record { more = zero_token ∷ []; value = zero_tree; member = tighter (tighter is_zero) }))
    (first_token (c + 2)) (λ xs t w. viable_begins (c + 2) xs t (begun_at_none (c + 2) xs t w)) (begun_at_none (c + 2)) goes

-- the tokens with which an expression of so many levels of operators may go on
abbrev goes_at : ℕ → Token → Bool
goes_at zero = tight
goes_at (suc c) = one_of (has (operator_at (suc (suc (suc c))))) (goes_at c)

-- an operator of each level
operator_token : List ℕ → Token
operator_token s = record { what = kinds.Symbol s; line = 1 }

record SomeOperator (level : ℕ) : Type 0 where
  token : Token
  sign : BinOp
  passes : operator_at level token ≡ Some sign

some_operator : (c : ℕ) → c < 10 → SomeOperator (suc (suc (suc c)))
unfolding operator_of operator_token
some_operator zero e = record { token = operator_token (codes "*"); sign = op.Mul; passes = refl }
some_operator (suc zero) e = record { token = operator_token (codes "+"); sign = op.Add; passes = refl }
some_operator (suc (suc zero)) e = record { token = operator_token (codes "<<"); sign = op.Left; passes = refl }
some_operator (suc (suc (suc zero))) e = record { token = operator_token (codes "<"); sign = op.Less; passes = refl }
some_operator (suc (suc (suc (suc zero)))) e = record { token = operator_token (codes "=="); sign = op.Equal; passes = refl }
some_operator (suc (suc (suc (suc (suc zero))))) e = record { token = operator_token (codes "&"); sign = op.And; passes = refl }
some_operator (suc (suc (suc (suc (suc (suc zero)))))) e = record { token = operator_token (codes "^"); sign = op.Xor; passes = refl }
some_operator (suc (suc (suc (suc (suc (suc (suc zero))))))) e = record { token = operator_token (codes "|"); sign = op.Or; passes = refl }
some_operator (suc (suc (suc (suc (suc (suc (suc (suc zero)))))))) e = record { token = operator_token (codes "&&"); sign = op.AndAlso; passes = refl }
some_operator (suc (suc (suc (suc (suc (suc (suc (suc (suc zero))))))))) e = record { token = operator_token (codes "||"); sign = op.OrElse; passes = refl }
some_operator (suc (suc (suc (suc (suc (suc (suc (suc (suc (suc c)))))))))) e = absurd (omega arith)

-- an operator of one level is of no other, and no bracket
record OfLevel (level : ℕ) (o : Option (ℕ × BinOp)) : Type 0 where
  found : ℕ × BinOp
  is : o ≡ Some found
  at : found.0 ≡ level

of_level_is : (level : ℕ) (o : Option (ℕ × BinOp)) → is_some (of_level level o) ≡ true → OfLevel level o
of_level_is level None e = absurd (cc)
of_level_is level (Some p) e = on (p.0 == level) refl e where
  on : (b : Bool) → (p.0 == level) ≡ b → is_some (if b then Some p.1 else None) ≡ true → OfLevel level (Some p)
  on false c e = absurd (cc)
  on true c e = record { found = p; is = refl; at = grind (arith, nat_tests) }

not_of_level : (level : ℕ) (o : Option (ℕ × BinOp)) (p : ℕ × BinOp) → o ≡ Some p → (p.0 ≡ level → ⊥) → is_some (of_level level o) ≡ false
not_of_level level o p e differs = ap (λ q. is_some (of_level level q)) e ∙ on (p.0 == level) refl where
  on : (b : Bool) → (p.0 == level) ≡ b → is_some (if b then Some p.1 else None) ≡ false
  on false c = refl
  on true c = let same : p.0 ≡ level = grind (arith, nat_tests) in absurd (differs same)

none_or : (b c : Bool) → b ≡ false → c ≡ false → (b || c) ≡ false
none_or false c e e' = e'
none_or true c e e' = e

abbrev is_binary : Token → Bool
is_binary t = is_some (operator_of t.what)

not_tight : (t : Token) → is_binary t ≡ true → tight t ≡ false
unfolding operator_of
not_tight t e = none_or (opening t) (index_opening t) (not_symbol is_binary (codes "(") (λ line. refl) t e) (not_symbol is_binary (codes "[") (λ line. refl) t e)

no_tighter : (c d : ℕ) (t : Token) (p : ℕ × BinOp) → operator_of t.what ≡ Some p → p.0 ≡ suc (suc (suc d)) → c ≤ d → goes_at c t ≡ false
no_tighter zero d t p is at small = not_tight t (ap is_some is)
no_tighter (suc c) d t p is at small =
    none_or (has (operator_at (suc (suc (suc c)))) t) (goes_at c t) (not_of_level (suc (suc (suc c))) (operator_of t.what) p is (λ same. absurd (omega arith))) (no_tighter c d t p is at (omega arith))

loose_apart : (c : ℕ) (t : Token) → has (operator_at (suc (suc (suc c)))) t ≡ true → goes_at c t ≡ false
loose_apart c t e = let v = of_level_is (suc (suc (suc c))) (operator_of t.what) e in no_tighter c c t v.found v.is v.at (omega arith)

-- so many levels of operators over an operand
module _ {n : ℕ} {f : Reader Expr} (part : Exact f (IsExpr prefix_level) (Begins prefix_level (suc n)) tight) (first : Begun f begins_expression) where
  levels_more : (c : ℕ) → read_then (read_levels c f) (read_operations (suc (suc (suc c))) (read_levels c f)) ≡ read_levels (suc c) f
  unfolding read_levels
  levels_more c = refl

  levels_none : f ≡ read_levels zero f
  unfolding read_levels
  levels_none = refl

  levels : (c : ℕ) → c ≤ 10 → Exact (read_levels c f) (IsExpr (suc (suc c))) (Begins (suc (suc c)) (suc n)) (goes_at c) × Begun (read_levels c f) begins_expression
  levels zero small = (exact_same levels_none part, subst (λ h. Begun h begins_expression) levels_none first)
  levels (suc c) small =
      let s = some_operator c (omega arith) in
      let below = levels c (omega arith) in (
        exact_same (levels_more c) (exact_level c n below.0 below.1 s.token s.sign s.passes (loose_apart c)),
        subst (λ h. Begun h begins_expression) (levels_more c) (begun_level c n below.0 below.1 s.token s.sign s.passes (loose_apart c)),
      )

-- what begins an operand begins an expression
same_tests : (a b c d : Bool) → (a || (b || (c || d))) ≡ (b || (c || (d || a)))
same_tests true true c d = refl
same_tests true false true d = refl
same_tests true false false true = refl
same_tests true false false false = refl
same_tests false true c d = refl
same_tests false false true d = refl
same_tests false false false true = refl
same_tests false false false false = refl

opening_is : (b : Bool) (line : ℕ) → is_some (if b then Some line else None) ≡ b
opening_is true line = refl
opening_is false line = refl

same_starts : (t : Token) → one_of (has prefix_at) (one_of (has number_at) (one_of (has name_at) opening)) t ≡ begins_expression t
same_starts t =
    same_tests (is_some (prefix_at t)) (is_some (number_at t)) (is_some (name_at t)) (is_some (symbol_at (codes "(") t))
    ∙ ap (λ b. is_some (number_at t) || (is_some (name_at t) || (b || is_some (prefix_at t)))) (opening_is (is_symbol (codes "(") t.what) t.line)

begun_same : {A : Type 0} {f : Reader A} {starts others : Token → Bool} → ((t : Token) → starts t ≡ others t) → Begun f starts → Begun f others
begun_same {f = f} {starts = starts} {others = others} same first = record { accepts = λ t rest s told. first.accepts t rest (same t ∙ s) told; refuses = refused } where
  begins_same : (ts : List Token) → begins starts ts ≡ begins others ts
  begins_same [] = refl
  begins_same (t ∷ ts) = same t

  refused : (ts : List Token) → begins others ts ≡ false → f ts ≡ Err (Syntax ts)
  refused ts s = first.refuses ts (begins_same ts ∙ s)

-- operands and whole expressions with so many levels
record At (n : ℕ) : Type 0 where
  unary : Exact (read_unary n) (IsExpr prefix_level) (Begins prefix_level n) tight
  begun_unary : Begun (read_unary n) begins_expression
  whole : Exact (read_whole n) IsWhole (Begins loosest_level n) goes_on
  begun_whole : Begun (read_whole n) begins_expression

goes_less : (t : Token) → goes_on t ≡ false → goes_at 10 t ≡ false
goes_less t e = none_at 10 (parts (is_symbol (codes "(") t.what) (is_symbol (codes "[") t.what) (is_binary t) e) where
  parts : (a b c : Bool) → (a || (b || c)) ≡ false → (a ≡ false) × (b ≡ false) × (c ≡ false)
  parts true b c e = absurd (cc)
  parts false true c e = absurd (cc)
  parts false false c e = (refl, refl, e)

  no_operator : (level : ℕ) (o : Option (ℕ × BinOp)) → is_some o ≡ false → is_some (of_level level o) ≡ false
  no_operator level None e = refl
  no_operator level (Some p) e = absurd (cc)

  none_at : (c : ℕ) → (is_symbol (codes "(") t.what ≡ false) × (is_symbol (codes "[") t.what ≡ false) × (is_binary t ≡ false) → goes_at c t ≡ false
  none_at zero w = none_or (opening t) (index_opening t) (opening_is (is_symbol (codes "(") t.what) t.line ∙ w.0) (opening_is (is_symbol (codes "[") t.what) t.line ∙ w.1)
  none_at (suc c) w = none_or (has (operator_at (suc (suc (suc c)))) t) (goes_at c t) (no_operator (suc (suc (suc c))) (operator_of t.what) w.2) (none_at c w)

at_level : (n : ℕ) → At n
at_level zero = record {
  unary = exact_none 0 tight;
  begun_unary = begun_too_deep begins_expression;
  whole = exact_none 10 goes_on;
  begun_whole = begun_too_deep begins_expression;
}
at_level (suc n) = from (at_level n) where
  from : At n → At (suc n)
  from w =
      let operand : Exact (read_prefixed (read_unary n) (read_whole n)) (IsExpr prefix_level) (Begins prefix_level (suc n)) tight = exact_prefixed w.whole w.begun_whole w.unary w.begun_unary in
      let begun : Begun (read_prefixed (read_unary n) (read_whole n)) begins_expression = begun_same same_starts (begun_prefixed w.whole w.begun_whole w.unary w.begun_unary) in
      record {
        unary = operand;
        begun_unary = begun;
        whole = exact_before (goes_at 10) goes_on (λ rest free. fewer_go goes_on (goes_at 10) goes_less rest free) (levels operand begun 10 (omega arith)).0;
        begun_whole = (levels operand begun 10 (omega arith)).1;
      }

pub exact_whole : (n : ℕ) → Exact (read_whole n) IsWhole (Begins loosest_level n) goes_on
exact_whole n = (at_level n).whole

pub begun_whole_at : (n : ℕ) → Begun (read_whole n) begins_expression
begun_whole_at n = (at_level n).begun_whole

-- a part that is so many levels in has at least so many tokens before it
pub deep_long : (k n : ℕ) (xs : List Token) (t : Token) → Begins k n xs t → n ≤ length xs
deep_long k n xs t (at_once none v) = omega arith
deep_long k n xs t (in_brackets {n = m} opened front e opens d) = let more : m ≤ length front = deep_long loosest_level m front t d in let size : length xs ≡ suc (length front) = ap length e in omega arith
deep_long k n xs t (in_first_argument {n = m} named opened word front e what opens d) =
    let more : m ≤ length front = deep_long loosest_level m front t d in let size : length xs ≡ suc (suc (length front)) = ap length e in omega arith
deep_long k n xs t (in_later_argument {n = m} named opened word before mark front e what opens w c d) =
    let more : m ≤ length front = deep_long loosest_level m front t d in
    let size : length xs ≡ suc (suc (length before + suc (length front))) = ap length e ∙ ap (λ i. suc (suc i)) (length-append before (mark ∷ front)) in omega arith
deep_long k n xs t (in_index {n = m} before opened front e w opens d) =
    let more : m ≤ length front = deep_long loosest_level m front t d in let size : length xs ≡ length before + suc (length front) = ap length e ∙ length-append before (opened ∷ front) in omega arith
deep_long k n xs t (in_second_index {n = m} before opened front e w opens d) =
    let more : m ≤ length front = deep_long loosest_level m front t d in let size : length xs ≡ length before + suc (length front) = ap length e ∙ length-append before (opened ∷ front) in omega arith
deep_long k n xs t (under_prefix {n = m} p sign front e is d) = let more : m ≤ length front = deep_long prefix_level m front t d in let size : length xs ≡ suc (length front) = ap length e in omega arith
deep_long k n xs t (on_the_right {k = j} before o operator front e is w d) =
    let more : n ≤ length front = deep_long j n front t d in let size : length xs ≡ length before + suc (length front) = ap length e ∙ length-append before (o ∷ front) in omega arith
deep_long k n xs t (in_tighter {k = j} d) = deep_long j n xs t d

-- tokens are one expression at most
pub one_expression : HasOneValue IsWhole
one_expression xs value other v w = one_value (exact_whole (suc (length xs))) xs (λ front t more e d.
    let long : suc (length xs) ≤ length front = deep_long loosest_level (suc (length xs)) front t d in
    let size : length xs ≡ length front + suc (length more) = ap length e ∙ length-append front (t ∷ more) in absurd (omega arith)) value other v w

-- expressions with the limits of the language are read exactly
into_excess : (xs : List Token) (t : Token) → CountedDeep is_operator 256 IsWhole (Begins loosest_level 64) xs t → IsExpressionExcess xs t
into_excess xs t (in_part d) = too_deep d
into_excess xs t (one_more e c v) = too_long e c v

out_of_excess : (xs : List Token) (t : Token) → IsExpressionExcess xs t → CountedDeep is_operator 256 IsWhole (Begins loosest_level 64) xs t
out_of_excess xs t (too_deep d) = in_part d
out_of_excess xs t (too_long e c v) = one_more e c v

pub exact_expression : Exact read_expression IsWhole IsExpressionExcess goes_on
unfolding read_expression
exact_expression = exact_as (λ xs e w. w) (λ xs e w. w) into_excess out_of_excess (exact_counted is_operator 256 (exact_whole 64))

pub begun_expression : Begun read_expression begins_expression
unfolding read_expression
begun_expression = begun_counted is_operator 256 (begun_whole_at 64)
