-- The parameters, the result, the pragma and the block of a function are read exactly, by exact readers of expressions and of what
-- stands in a block.
use Rattle.std.proofs.Common.{◌≡◌, ℕ, Bool, true, false, if◌then◌else◌, List, [], ◌∷◌, ◌++◌, refl, sym, ap, ◌∙◌, subst, append_assoc, Option, Some, None, is_some}
use Rattle.std.specs.Prelude.{codes}
use Rattle.oss_syntax.specs.declared.token.Token.{Token}
use Rattle.oss_syntax.specs.declared.token.TokenKind.{TokenKind}
use Rattle.oss_syntax.specs.declared.token.TokenKind.TheVariants as kinds
use Rattle.oss_syntax.specs.declared.tree.expr.Expr.{Expr}
use Rattle.oss_syntax.specs.declared.tree.pragma.Directive.{Directive}
use Rattle.oss_syntax.specs.declared.tree.pragma.Directive.TheVariants as directive
use Rattle.oss_syntax.specs.declared.tree.pragma.TaskMark.{TaskMark}
use Rattle.oss_syntax.specs.declared.tree.program.Item.{Item}
use Rattle.oss_syntax.specs.declared.tree.program.Kind.{Kind}
use Rattle.oss_syntax.specs.declared.tree.program.Kind.TheVariants as kind
use Rattle.oss_syntax.specs.declared.tree.program.Local.{Local}
use Rattle.oss_syntax.specs.declared.tree.program.NumKind.{NumKind}
use Rattle.oss_syntax.specs.declared.tree.stmt.Stmt.{Stmt}
use Rattle.oss_grammar.specs.Expressions.{IsWhole}
use Rattle.oss_grammar.specs.Fronts.{Viable}
use Rattle.oss_grammar.specs.Grammar.{One, Both, Mapped, Either}
use Rattle.oss_grammar.specs.Grammar.Either.{one_way, other_way}
use Rattle.oss_grammar.specs.Levels.{IsExcessBehind}
use Rattle.oss_grammar.specs.OneToken.{is_word, is_keyword, IsSymbol, IsWord, IsOpen, IsClose}
use Rattle.oss_grammar.specs.Pragmas.{IsPragma}
use Rattle.oss_grammar.specs.Pragmas.IsPragma.{task}
use Rattle.oss_grammar.specs.Pragmas.IsClauses.{no_clause}
use Rattle.oss_grammar.specs.Programs.{IsParameter, IsParameterList, IsParameters, IsResult}
use Rattle.oss_grammar.specs.Programs.IsParameter.{parameter}
use Rattle.oss_grammar.specs.Programs.IsParameterList.{last_parameter, next_parameter}
use Rattle.oss_grammar.specs.Programs.IsParameters.{no_parameters, void_parameters, some_parameters}
use Rattle.oss_grammar.specs.Programs.IsResult.{number_result, void_result}
use Rattle.oss_grammar.specs.Reading.{Reader, has, one_of, never, read_one, read_both}
use Rattle.oss_grammar.specs.SimpleStatements.{first_line}
use Rattle.oss_grammar.specs.StatementLimits.{OpensMark}
use Rattle.oss_grammar.specs.StatementLimits.OpensMark.{in_mark}
use Rattle.oss_grammar.specs.Statements.{IsItems}
use Rattle.oss_grammar.specs.Statements.IsItems.{no_item}
use Rattle.oss_grammar.proofs.Parts.{Exact, Begun, exact_as}
use Rattle.oss_grammar.proofs.PartLemmas.{Nowhere, nowhere, exact_one, begun_one, exact_mapped, begun_mapped, Then, ThenDeep, exact_then, begun_then, EitherDeep, begun_either}
use Rattle.oss_grammar.proofs.PartLemmas.EitherDeep.{one_deep, other_deep}
use Rattle.oss_grammar.proofs.PairLemmas.{begun_both, some_text}
use Rattle.oss_expressions.specs.ExpressionReading.{former, read_list}
use Rattle.oss_expressions.specs.TokenValues.{symbol_at, keyword_at, word_at, start_in, start_at, end_in, end_at, begins_expression}
use Rattle.oss_expressions.specs.declared.cursor.Named.{Named}
use Rattle.oss_expressions.proofs.ExactPairs.{BothDeep, exact_both, Headed, HeadedDeep, exact_headed, begun_headed, Trailed, exact_trailed, Enclosed, read_bracketed, Bracketed, BracketedDeep, exact_bracketed, bracketed_viable, Behind, exact_behind, begun_behind, exact_or}
use Rattle.oss_expressions.proofs.ListLemmas.{comma, Listed, ListedDeep, exact_list, begun_list}
use Rattle.oss_expressions.proofs.ListLemmas.Listed.{last_part, next_part}
use Rattle.oss_expressions.proofs.ListLemmas.ListedDeep.{deep_first, deep_later}
use Rattle.oss_expressions.proofs.TokenLemmas.{begins_never, closing, goes_on, on_symbol, on_keyword, not_symbol, has_symbol, symbol_token, symbol_value, one_symbol}
use Rattle.oss_pragma.specs.PragmaReading.{task_of}
use Rattle.oss_pragma.proofs.ExactPragmas.{IsTaskClauses, OpensClauses, exact_task}
use Rattle.oss_pragma.proofs.ExactPragmas.OpensClauses.{behind_clauses}
use Rattle.oss_pragma.proofs.OnceLemmas.{once_none}
use Rattle.oss_parse.specs.ProgramReading.{parameter_of, read_parameter, read_parameters, function_of, just, read_function_from, read_result, mark_in, read_mark}
use Rattle.oss_parse.specs.SimpleReading.{begins_kind}
use Rattle.oss_parse.proofs.ExactKinds.{keyword_told, keyword_value, NumKinded, exact_num_kind, begun_num_kind, Declared, exact_declared, begun_declared}

-- what passes no test of a token that this keyword passes is no such keyword
pub not_keyword : (test : Token → Bool) (s : List ℕ) → ((line : ℕ) → test (record { what = kinds.Keyword s; line = line }) ≡ false) → (t : Token) → test t ≡ true → has (keyword_at s) t ≡ false
not_keyword test s told t e = on (is_keyword s t.what) refl where
  on : (b : Bool) → is_keyword s t.what ≡ b → has (keyword_at s) t ≡ false
  on true is = let no_way : test t ≡ false = on_keyword test s false told t is in absurd (cc)
  on false is = rw is refl

abbrev void_at : Token → Option ℕ
void_at = keyword_at (codes "void")

abbrev void_token : Token
void_token = record { what = kinds.Keyword (codes "void"); line = 0 }

abbrev close_token : Token
close_token = record { what = kinds.Symbol (codes ")"); line = 0 }

-- a parameter
abbrev Typed : List Token → Local → Type 0
Typed = Then NumKinded (λ k. Mapped parameter_of (Declared k.0))

parameter_into : (xs : List Token) (l : Local) → Typed xs l → IsParameter xs l
parameter_into xs l w = subst (λ l. IsParameter xs l) w.behind.made (parameter w.front w.back w.split w.before.typed w.behind.whole.declares)

parameter_back : (xs : List Token) (l : Local) → IsParameter xs l → Typed xs l
parameter_back xs l (parameter {numbers = numbers} {k = k} {word = word} {line = line} front back e n d) = record {
  front = front;
  back = back;
  value = (numbers, first_line front);
  split = e;
  before = record { typed = n; at = refl };
  behind = record { part = (k, record { name = word; line = line }); made = refl; whole = record { declares = d } };
}

then_nowhere : {A : Type 0} (U : List Token → A → Type 0) (xs : List Token) (t : Token) → ThenDeep Nowhere U (λ a. Nowhere) xs t → Nowhere xs t
then_nowhere U xs t (ThenDeep.in_first d) = d
then_nowhere U xs t (ThenDeep.in_second front back a e w d) = nowhere back t d

declared_viable : (k : NumKind × ℕ) → Viable (Mapped parameter_of (Declared k.0)) []
declared_viable k = some_text (exact_mapped parameter_of (exact_declared k.0)) (begun_mapped parameter_of (begun_declared k.0))

exact_parameter : Exact read_parameter IsParameter Nowhere never
unfolding read_parameter
exact_parameter = exact_as parameter_into parameter_back (then_nowhere NumKinded) (λ xs t d. ThenDeep.in_first d)
    (exact_then exact_num_kind (λ k. exact_mapped parameter_of (exact_declared k.0)) (λ k ys b rest w free. begins_never (ys ++ rest)) (λ k ys t rest d. begins_never (ys ++ (t ∷ rest))) declared_viable)

begun_parameter : Begun read_parameter begins_kind
unfolding read_parameter
begun_parameter = begun_then exact_num_kind (λ k. exact_mapped parameter_of (exact_declared k.0)) (λ k ys b rest w free. begins_never (ys ++ rest)) (λ k ys t rest d. begins_never (ys ++ (t ∷ rest))) declared_viable
    begun_num_kind

list_into : (xs : List Token) (ls : List Local) → Listed IsParameter xs ls → IsParameterList xs ls
list_into xs ls (last_part w) = last_parameter w
list_into xs ls (next_part {more = more} front mark back e c w v) = next_parameter front mark back e c w (list_into back more v)

list_back : (xs : List Token) (ls : List Local) → IsParameterList xs ls → Listed IsParameter xs ls
list_back xs ls (last_parameter w) = last_part w
list_back xs ls (next_parameter {more = more} front mark back e c w v) = next_part front mark back e c w (list_back back more v)

list_deeper : (xs : List Token) (t : Token) → ListedDeep IsParameter Nowhere xs t → Nowhere xs t
list_deeper xs t (deep_first d) = d
list_deeper xs t (deep_later a front mark back e w c d) = nowhere back t (list_deeper back t d)

exact_parameter_list : Exact (read_list read_parameter) IsParameterList Nowhere (one_of comma never)
exact_parameter_list = exact_as list_into list_back list_deeper (λ xs t d. deep_first d) (exact_list exact_parameter begun_parameter (λ t e. refl))

begun_parameter_list : Begun (read_list read_parameter) begins_kind
begun_parameter_list = begun_list exact_parameter begun_parameter (λ t e. refl)

-- parameters with the bracket behind them
pub record Closing (xs : List Token) (params : List Local) : Type 0 where
  pub inner : List Token
  pub closed : Token
  pub split : xs ≡ inner ++ (closed ∷ [])
  pub closes : IsClose closed
  pub are : IsParameters inner params

abbrev Parameters : List Token → List Local → Type 0
Parameters = Either (Mapped (λ line. []) (One (symbol_at (codes ")")))) (Either (Mapped (λ lines. []) (Headed void_at (One (symbol_at (codes ")"))))) (Mapped former (Trailed (symbol_at (codes ")")) IsParameterList)))

parameters_into : (xs : List Token) (params : List Local) → Parameters xs params → Closing xs params
parameters_into xs params (one_way w) =
    subst (λ ls. Closing xs ls) w.made (record { inner = []; closed = w.whole.token; split = w.whole.only; closes = one_symbol (codes ")") xs w.part w.whole; are = no_parameters refl })
parameters_into xs params (other_way (one_way w)) = let h = w.whole in
    subst (λ ls. Closing xs ls) w.made (record {
      inner = h.token ∷ [];
      closed = h.behind.token;
      split = h.split ∙ ap (λ ys. h.token ∷ ys) h.behind.only;
      closes = one_symbol (codes ")") h.back w.part.1 h.behind;
      are = void_parameters h.token refl (keyword_told (codes "void") h.token w.part.0 h.passes);
    })
parameters_into xs params (other_way (other_way w)) = let b = w.whole in
    subst (λ ls. Closing xs ls) w.made (record { inner = b.inner; closed = b.closed; split = b.split; closes = symbol_token (codes ")") b.closed w.part.1 b.passes; are = some_parameters b.inside })

parameters_back_by : (xs inner : List Token) (closed : Token) (params : List Local) → xs ≡ inner ++ (closed ∷ []) → IsClose closed → IsParameters inner params → Parameters xs params
parameters_back_by xs inner closed params e c (no_parameters none) =
    one_way (record { part = closed.line; made = refl; whole = record { token = closed; only = e ∙ ap (λ ys. ys ++ (closed ∷ [])) none; passes = symbol_value (codes ")") closed c } })
parameters_back_by xs inner closed params e c (void_parameters t only v) = other_way (one_way (record {
  part = (t.line, closed.line);
  made = refl;
  whole = record {
    token = t;
    back = closed ∷ [];
    split = e ∙ ap (λ ys. ys ++ (closed ∷ [])) only;
    passes = keyword_value (codes "void") t v;
    behind = record { token = closed; only = refl; passes = symbol_value (codes ")") closed c };
  };
}))
parameters_back_by xs inner closed params e c (some_parameters w) = other_way (other_way (record {
  part = (params, closed.line);
  made = refl;
  whole = record { inner = inner; closed = closed; split = e; passes = symbol_value (codes ")") closed c; inside = w };
}))

parameters_back : (xs : List Token) (params : List Local) → Closing xs params → Parameters xs params
parameters_back xs params w = parameters_back_by xs w.inner w.closed params w.split w.closes w.are

parameters_deeper : (xs : List Token) (t : Token) → EitherDeep Nowhere (EitherDeep (HeadedDeep void_at Nowhere) Nowhere) xs t → Nowhere xs t
parameters_deeper xs t (one_deep d) = d
parameters_deeper xs t (other_deep (one_deep d)) = nowhere d.back t d.deep
parameters_deeper xs t (other_deep (other_deep d)) = d

exact_close : Exact (read_one (symbol_at (codes ")"))) (One (symbol_at (codes ")"))) Nowhere never
exact_close = exact_one (symbol_at (codes ")")) close_token 0 refl never

begun_close : Begun (read_one (symbol_at (codes ")"))) closing
begun_close = begun_one (symbol_at (codes ")"))

close_ends : (t : Token) → closing t ≡ true → one_of comma never t ≡ false
close_ends t e = on_symbol (one_of comma never) (codes ")") false (λ line. refl) t (has_symbol (codes ")") t e)

exact_closed_list : Exact {A = List Local × ℕ} (read_both (read_list read_parameter) (read_one (symbol_at (codes ")")))) (Trailed (symbol_at (codes ")")) IsParameterList) Nowhere never
exact_closed_list = exact_trailed (symbol_at (codes ")")) exact_parameter_list close_ends close_token 0 refl

begun_closed_list : Begun {A = List Local × ℕ} (read_both (read_list read_parameter) (read_one (symbol_at (codes ")")))) begins_kind
begun_closed_list = begun_both exact_parameter_list exact_close begun_close close_ends begun_parameter_list

exact_void : Exact {A = ℕ × ℕ} (read_both (read_one void_at) (read_one (symbol_at (codes ")")))) (Headed void_at (One (symbol_at (codes ")")))) (HeadedDeep void_at Nowhere) never
exact_void = exact_headed void_at exact_close void_token 0 refl (some_text exact_close begun_close)

begun_void : Begun {A = ℕ × ℕ} (read_both (read_one void_at) (read_one (symbol_at (codes ")")))) (has void_at)
begun_void = begun_headed void_at exact_close

pub kind_no_void : (t : Token) → begins_kind t ≡ true → has void_at t ≡ false
kind_no_void t e = not_keyword begins_kind (codes "void") (λ line. refl) t e

inner_no_close : (t : Token) → one_of (has void_at) begins_kind t ≡ true → closing t ≡ false
inner_no_close t e = not_symbol (one_of (has void_at) begins_kind) (codes ")") (λ line. refl) t e

-- the parameters of a function are read with the bracket behind them
pub exact_parameters : Exact read_parameters Closing Nowhere never
unfolding read_parameters
exact_parameters = exact_as parameters_into parameters_back parameters_deeper (λ xs t d. one_deep d)
    (exact_or closing (one_of (has void_at) begins_kind) (exact_mapped (λ line. []) exact_close) (begun_mapped (λ line. []) begun_close)
    (exact_or (has void_at) begins_kind (exact_mapped (λ lines. []) exact_void) (begun_mapped (λ lines. []) begun_void) (exact_mapped former exact_closed_list) (begun_mapped former begun_closed_list) kind_no_void)
    (begun_either (has void_at) (begun_mapped (λ lines. []) begun_void) (begun_mapped former begun_closed_list)) inner_no_close)

-- the type of a function's result
abbrev Resulting : List Token → Kind → Type 0
Resulting = Either (Mapped (λ line. kind.Nothing) (One void_at)) (Mapped (λ k. kind.Num (former k)) NumKinded)

result_into : (xs : List Token) (k : Kind) → Resulting xs k → IsResult xs k
result_into xs k (one_way w) = subst (λ k. IsResult xs k) w.made (void_result w.whole.token w.whole.only (keyword_told (codes "void") w.whole.token w.part w.whole.passes))
result_into xs k (other_way w) = subst (λ k. IsResult xs k) w.made (number_result w.whole.typed)

result_back : (xs : List Token) (k : Kind) → IsResult xs k → Resulting xs k
result_back xs k (number_result {numbers = numbers} n) = other_way (record { part = (numbers, first_line xs); made = refl; whole = record { typed = n; at = refl } })
result_back xs k (void_result t e v) = one_way (record { part = t.line; made = refl; whole = record { token = t; only = e; passes = keyword_value (codes "void") t v } })

result_deeper : (xs : List Token) (t : Token) → EitherDeep Nowhere Nowhere xs t → Nowhere xs t
result_deeper xs t (one_deep d) = d
result_deeper xs t (other_deep d) = d

pub exact_void_word : Exact (read_one void_at) (One void_at) Nowhere never
exact_void_word = exact_one void_at void_token 0 refl never

pub exact_result : Exact read_result IsResult Nowhere never
unfolding read_result
exact_result = exact_as result_into result_back result_deeper (λ xs t d. one_deep d)
    (exact_or (has void_at) begins_kind (exact_mapped (λ line. kind.Nothing) exact_void_word) (begun_mapped (λ line. kind.Nothing) (begun_one void_at))
    (exact_mapped (λ k. kind.Num (former k)) exact_num_kind) (begun_mapped (λ k. kind.Num (former k)) begun_num_kind) kind_no_void)

pub begun_result : Begun read_result (one_of (has void_at) begins_kind)
unfolding read_result
begun_result = begun_either (has void_at) (begun_mapped (λ line. kind.Nothing) (begun_one void_at)) (begun_mapped (λ k. kind.Num (former k)) begun_num_kind)

-- the words of a pragma, and its first and last tokens
line_of : (b : Bool) (line n : ℕ) → (if b then Some line else None) ≡ Some n → b ≡ true
line_of true line n e = refl
line_of false line n e = absurd (cc)

word_told : (w : List ℕ) (t : Token) (n : ℕ) → word_at w t ≡ Some n → IsWord w t
word_told w t n e = line_of (is_word w t.what) t.line n e

tells_word : (w : List ℕ) (t : Token) → IsWord w t → word_at w t ≡ Some t.line
tells_word w t e = rw e refl

record StartIs (k : TokenKind) (line n : ℕ) : Type 0 where
  what : k ≡ kinds.PragmaOss
  same : line ≡ n

start_is : (k : TokenKind) (line n : ℕ) → start_in k line ≡ Some n → StartIs k line n
start_is kinds.PragmaOss line n e = record { what = refl; same = cc }
start_is kinds.PragmaEnd line n e = absurd (cc)
start_is kinds.Directive line n e = absurd (cc)
start_is (kinds.Name w) line n e = absurd (cc)
start_is (kinds.Symbol w) line n e = absurd (cc)
start_is (kinds.Keyword w) line n e = absurd (cc)
start_is (kinds.Number v u) line n e = absurd (cc)
start_is (kinds.Text w) line n e = absurd (cc)

end_is : (k : TokenKind) (line : ℕ) → is_some (end_in k line) ≡ true → k ≡ kinds.PragmaEnd
end_is kinds.PragmaEnd line e = refl
end_is kinds.PragmaOss line e = absurd (cc)
end_is kinds.Directive line e = absurd (cc)
end_is (kinds.Name w) line e = absurd (cc)
end_is (kinds.Symbol w) line e = absurd (cc)
end_is (kinds.Keyword w) line e = absurd (cc)
end_is (kinds.Number v u) line e = absurd (cc)
end_is (kinds.Text w) line e = absurd (cc)

one_start : (t : Token) → t.what ≡ kinds.PragmaOss → One start_at (t ∷ []) t.line
one_start t e = record { token = t; only = refl; passes = ap (λ k. start_in k t.line) e }

-- the pragma of a task before a function
pub record Marked (xs : List Token) (m : Option TaskMark) : Type 0 where
  pub mark : TaskMark
  pub some : Some mark ≡ m
  pub pragma : IsPragma xs (directive.Task mark)

abbrev Tasked : ℕ → List Token → Directive → Type 0
Tasked line = Mapped (task_of line) (Enclosed (word_at (codes "task")) end_at IsTaskClauses)

abbrev MarkRead : List Token → Option TaskMark → Type 0
MarkRead = Mapped mark_in (Then (One start_at) Tasked)

mark_into : (xs : List Token) (m : Option TaskMark) → MarkRead xs m → Marked xs m
mark_into xs m w = let s = w.whole.before in let k = w.whole.behind in let c = k.whole in
    let is : StartIs s.token.what s.token.line w.whole.value = start_is s.token.what s.token.line w.whole.value s.passes in record {
      mark = record { clauses = k.part.1.0; line = s.token.line };
      some = ap (λ line. Some (record { clauses = k.part.1.0; line = line })) is.same ∙ (ap mark_in k.made ∙ w.made);
      pragma = task s.token c.opened c.inner c.closed (w.whole.split ∙ (ap (λ ys. ys ++ w.whole.back) s.only ∙ ap (λ ys. s.token ∷ ys) c.split)) is.what
          (word_told (codes "task") c.opened k.part.0 c.opens) (end_is c.closed.what c.closed.line (ap is_some c.closes)) c.inside.clauses c.inside.once c.inside.bare;
    }

mark_back_by : (xs : List Token) (mark : TaskMark) → IsPragma xs (directive.Task mark) → MarkRead xs (Some mark)
mark_back_by xs mark (task {clauses = cs} start word inner end e s k n w once bare) = record {
  part = directive.Task (record { clauses = cs; line = start.line });
  made = refl;
  whole = record {
    front = start ∷ [];
    back = word ∷ (inner ++ (end ∷ []));
    value = start.line;
    split = e;
    before = one_start start s;
    behind = record {
      part = (word.line, (cs, end.line));
      made = refl;
      whole = record { opened = word; inner = inner; closed = end; split = refl; opens = tells_word (codes "task") word k; closes = ap (λ k. end_in k end.line) n; inside = record { clauses = w; once = once; bare = bare } };
    };
  };
}

mark_back : (xs : List Token) (m : Option TaskMark) → Marked xs m → MarkRead xs m
mark_back xs m w = subst (λ m. MarkRead xs m) w.some (mark_back_by xs w.mark w.pragma)

task_viable : (line : ℕ) → Viable (Tasked line) []
task_viable line = record {
  more = record { what = kinds.Name (codes "task"); line = 0 } ∷ record { what = kinds.PragmaEnd; line = 0 } ∷ [];
  value = task_of line (0, ([], 0));
  member = record {
    part = (0, ([], 0));
    made = refl;
    whole = record { opened = record { what = kinds.Name (codes "task"); line = 0 }; inner = []; closed = record { what = kinds.PragmaEnd; line = 0 }; split = refl; opens = refl; closes = refl; inside = record { clauses = no_clause refl; once = once_none; bare = refl } };
  };
}

module _ {expression : Reader Expr} {X : List Token → Token → Type 0} (part : Exact expression IsWhole X goes_on) (first : Begun expression begins_expression) where
  abbrev TaskedDeep : List Token → Token → Type 0
  TaskedDeep = HeadedDeep (word_at (codes "task")) (IsExcessBehind OpensClauses X)

  abbrev MarkDeep : List Token → Token → Type 0
  MarkDeep = ThenDeep Nowhere (One start_at) (λ line. TaskedDeep)

  mark_place : (xs back : List Token) (start word : Token) (t : Token) → xs ≡ start ∷ word ∷ back → start.what ≡ kinds.PragmaOss → IsWord (codes "task") word → (x : IsExcessBehind OpensClauses X back t) → OpensClauses x.front
      → IsExcessBehind OpensMark X xs t
  mark_place xs back start word t e s k x (behind_clauses front left b w once bare o) = record {
    front = start ∷ word ∷ x.front;
    inner = x.inner;
    split = e ∙ ap (λ ys. start ∷ word ∷ ys) x.split;
    opens = in_mark start word front left (ap (λ ys. start ∷ word ∷ ys) b) s k w once bare o;
    excess = x.excess;
  }

  mark_deeper : (xs : List Token) (t : Token) → MarkDeep xs t → IsExcessBehind OpensMark X xs t
  mark_deeper xs t (ThenDeep.in_first d) = nowhere xs t d
  mark_deeper xs t (ThenDeep.in_second front back line e s d) =
      mark_place xs d.back s.token d.token t (e ∙ (ap (λ ys. ys ++ back) s.only ∙ ap (λ ys. s.token ∷ ys) d.split)) (start_is s.token.what s.token.line line s.passes).what (word_told (codes "task") d.token d.value d.passes) d.deep d.deep.opens

  mark_upper_by : (xs before inner : List Token) (t : Token) → xs ≡ before ++ inner → X inner t → OpensMark before → MarkDeep xs t
  mark_upper_by xs before inner t e x (in_mark start word front back b s k w once bare o) =
      ThenDeep.in_second (start ∷ []) (word ∷ ((front ++ back) ++ inner)) start.line (e ∙ ap (λ ys. ys ++ inner) b) (one_start start s) (record {
        token = word;
        back = (front ++ back) ++ inner;
        value = word.line;
        split = refl;
        passes = tells_word (codes "task") word k;
        deep = record { front = front ++ back; inner = inner; split = refl; opens = behind_clauses front back refl w once bare o; excess = x };
      })

  mark_upper : (xs : List Token) (t : Token) → IsExcessBehind OpensMark X xs t → MarkDeep xs t
  mark_upper xs t w = mark_upper_by xs w.front w.inner t w.split w.excess w.opens

  exact_start : Exact (read_one start_at) (One start_at) Nowhere never
  exact_start = exact_one start_at (record { what = kinds.PragmaOss; line = 0 }) 0 refl never

  -- the pragma before a function is read
  pub exact_mark : Exact (read_mark expression) Marked (IsExcessBehind OpensMark X) never
  unfolding read_mark
  exact_mark = exact_as mark_into mark_back mark_deeper mark_upper
      (exact_mapped mark_in (exact_then exact_start (exact_task part first) (λ line ys b rest w free. begins_never (ys ++ rest)) (λ line ys t rest d. begins_never (ys ++ (t ∷ rest))) task_viable))

  pub begun_mark : Begun (read_mark expression) (has start_at)
  unfolding read_mark
  begun_mark =
      begun_mapped mark_in (begun_then exact_start (exact_task part first) (λ line ys b rest w free. begins_never (ys ++ rest)) (λ line ys t rest d. begins_never (ys ++ (t ∷ rest))) task_viable (begun_one start_at))

-- what stands behind the name of a function
pub record FunctionTail (mark : Option TaskMark) (result : Kind) (name : Named) (xs : List Token) (found : List Item) : Type 0 where
  pub opened : Token
  pub inner : List Token
  pub closed : Token
  pub begins : Token
  pub within : List Token
  pub ends : Token
  pub params : List Local
  pub body : List Stmt
  pub split : xs ≡ opened ∷ (inner ++ (closed ∷ begins ∷ (within ++ (ends ∷ []))))
  pub opens : IsOpen opened
  pub are : IsParameters inner params
  pub closes : IsClose closed
  pub starts : IsSymbol (codes "{") begins
  pub holds : IsItems within body
  pub stops : IsSymbol (codes "}") ends
  pub made : just (function_of mark result name (params, body)) ≡ found

-- a limit is passed in the block of a function, behind its name
pub record FunctionDeep (Z : List Token → Token → Type 0) (xs : List Token) (t : Token) : Type 0 where
  pub opened : Token
  pub inner : List Token
  pub closed : Token
  pub begins : Token
  pub within : List Token
  pub params : List Local
  pub split : xs ≡ opened ∷ (inner ++ (closed ∷ begins ∷ within))
  pub opens : IsOpen opened
  pub are : IsParameters inner params
  pub closes : IsClose closed
  pub starts : IsSymbol (codes "{") begins
  pub deep : Z within t

module _ {body : Reader (List Stmt)} {Z : List Token → Token → Type 0} {goes_inside : Token → Bool} (inside : Exact body IsItems Z goes_inside)
    (ends_it : (t : Token) → has (symbol_at (codes "}")) t ≡ true → goes_inside t ≡ false) (mark : Option TaskMark) (result : Kind) (name : Named) where
  abbrev Block : List Token → List Stmt → Type 0
  Block = Bracketed (codes "{") (codes "}") IsItems

  abbrev BlockDeep : List Token → Token → Type 0
  BlockDeep = BracketedDeep (codes "{") Z

  abbrev Rest : List Token → List Local × List Stmt → Type 0
  Rest = Behind (codes "(") (Both Closing Block)

  abbrev RestDeep : List Token → Token → Type 0
  RestDeep = BracketedDeep (codes "(") (BothDeep Nowhere Closing BlockDeep)

  abbrev tree_of : List Local × List Stmt → List Item
  tree_of p = just (function_of mark result name p)

  items_viable : Viable IsItems []
  items_viable = record { more = []; value = []; member = no_item refl }

  tail_into : (xs : List Token) (found : List Item) → Mapped tree_of Rest xs found → FunctionTail mark result name xs found
  tail_into xs found w = let r = w.whole in let b = r.behind in let p = b.before in let c = b.behind in record {
    opened = r.mark;
    inner = p.inner;
    closed = p.closed;
    begins = c.opened;
    within = c.inner;
    ends = c.closed;
    params = w.part.0;
    body = w.part.1;
    split = r.split ∙ ap (λ ys. r.mark ∷ ys) (b.split ∙ (ap (λ ys. ys ++ b.back) p.split ∙ (append_assoc p.inner (p.closed ∷ []) b.back ∙ ap (λ ys. p.inner ++ (p.closed ∷ ys)) c.split)));
    opens = r.marks;
    are = p.are;
    closes = p.closes;
    starts = c.opens;
    holds = c.inside;
    stops = c.closes;
    made = w.made;
  }

  tail_back : (xs : List Token) (found : List Item) → FunctionTail mark result name xs found → Mapped tree_of Rest xs found
  tail_back xs found w = record {
    part = (w.params, w.body);
    made = w.made;
    whole = record {
      mark = w.opened;
      back = w.inner ++ (w.closed ∷ w.begins ∷ (w.within ++ (w.ends ∷ [])));
      split = w.split;
      marks = w.opens;
      behind = record {
        front = w.inner ++ (w.closed ∷ []);
        back = w.begins ∷ (w.within ++ (w.ends ∷ []));
        split = sym (append_assoc w.inner (w.closed ∷ []) (w.begins ∷ (w.within ++ (w.ends ∷ []))));
        before = record { inner = w.inner; closed = w.closed; split = refl; closes = w.closes; are = w.are };
        behind = record { opened = w.begins; inner = w.within; closed = w.ends; split = refl; opens = w.starts; closes = w.stops; inside = w.holds };
      };
    };
  }

  tail_deeper : (xs : List Token) (t : Token) → RestDeep xs t → FunctionDeep Z xs t
  tail_deeper xs t w = on w.deep where
    on : BothDeep Nowhere Closing BlockDeep w.inner t → FunctionDeep Z xs t
    on (ThenDeep.in_first d) = nowhere w.inner t d
    on (ThenDeep.in_second front back params e p d) = record {
      opened = w.opened;
      inner = p.inner;
      closed = p.closed;
      begins = d.opened;
      within = d.inner;
      params = params;
      split = w.split ∙ ap (λ ys. w.opened ∷ ys) (e ∙ (ap (λ ys. ys ++ back) p.split ∙ (append_assoc p.inner (p.closed ∷ []) back ∙ ap (λ ys. p.inner ++ (p.closed ∷ ys)) d.split)));
      opens = w.opens;
      are = p.are;
      closes = p.closes;
      starts = d.opens;
      deep = d.deep;
    }

  tail_upper : (xs : List Token) (t : Token) → FunctionDeep Z xs t → RestDeep xs t
  tail_upper xs t w = record {
    opened = w.opened;
    inner = w.inner ++ (w.closed ∷ w.begins ∷ w.within);
    split = w.split;
    opens = w.opens;
    deep = ThenDeep.in_second (w.inner ++ (w.closed ∷ [])) (w.begins ∷ w.within) w.params (sym (append_assoc w.inner (w.closed ∷ []) (w.begins ∷ w.within)))
        (record { inner = w.inner; closed = w.closed; split = refl; closes = w.closes; are = w.are }) (record { opened = w.begins; inner = w.within; split = refl; opens = w.starts; deep = w.deep });
  }

  exact_block : Exact (read_bracketed (codes "{") (codes "}") body) Block BlockDeep never
  exact_block = exact_bracketed (codes "{") (codes "}") inside items_viable ends_it refl refl

  block_viable : Viable Block []
  block_viable = bracketed_viable (codes "{") (codes "}") refl refl items_viable

  exact_headed_block : Exact {A = List Local × List Stmt} (read_both read_parameters (read_bracketed (codes "{") (codes "}") body)) (Both Closing Block) (BothDeep Nowhere Closing BlockDeep) never
  exact_headed_block = exact_both exact_parameters exact_block (λ ys b rest w free. begins_never (ys ++ rest)) (λ ys t rest d. begins_never (ys ++ (t ∷ rest))) block_viable

  headed_viable : Viable (Both Closing Block) []
  headed_viable = let v = block_viable in record {
    more = close_token ∷ v.more;
    value = ([], v.value);
    member = record { front = close_token ∷ []; back = v.more; split = refl; before = record { inner = []; closed = close_token; split = refl; closes = refl; are = no_parameters refl }; behind = v.member };
  }

  -- a function is read behind its name
  pub exact_function_from : Exact (read_function_from body mark result name) (FunctionTail mark result name) (FunctionDeep Z) never
  unfolding read_function_from
  exact_function_from = exact_as tail_into tail_back tail_deeper tail_upper (exact_mapped tree_of (exact_behind (codes "(") exact_headed_block headed_viable refl))

  pub begun_function_from : Begun (read_function_from body mark result name) (has (symbol_at (codes "(")))
  unfolding read_function_from
  begun_function_from = begun_mapped tree_of (begun_behind (codes "(") exact_headed_block headed_viable refl)
