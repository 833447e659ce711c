-- The reader of the head of a task loop is exact for each exact reader of expressions.
use Rattle.std.proofs.Common.{◌≡◌, ℕ, Bool, true, false, List, [], ◌∷◌, ◌++◌, refl, sym, ap, ◌∙◌, subst, append_assoc, Some}
use Rattle.std.specs.Prelude.{codes}
use Rattle.oss_syntax.specs.declared.token.Token.{Token}
use Rattle.oss_syntax.specs.declared.token.TokenKind.TheVariants as kinds
use Rattle.oss_syntax.specs.declared.tree.expr.Expr.{Expr}
use Rattle.oss_syntax.specs.declared.tree.pragma.TaskMark.{TaskMark}
use Rattle.oss_syntax.specs.declared.tree.stmt.LoopHead.{LoopHead}
use Rattle.oss_syntax.specs.declared.tree.stmt.NameUse.{NameUse}
use Rattle.oss_grammar.specs.Expressions.{IsWhole}
use Rattle.oss_grammar.specs.Fronts.{Viable}
use Rattle.oss_grammar.specs.Grammar.{One, Both, Mapped}
use Rattle.oss_grammar.specs.Levels.{IsExcessBehind}
use Rattle.oss_grammar.specs.OneToken.{IsSymbol}
use Rattle.oss_grammar.specs.Pragmas.{counter}
use Rattle.oss_grammar.specs.Reading.{Reader, has, never, read_one, read_mapped, read_both}
use Rattle.oss_grammar.specs.SimpleStatements.{first_line}
use Rattle.oss_grammar.specs.StatementLimits.{OpensLoopHead}
use Rattle.oss_grammar.specs.StatementLimits.OpensLoopHead.{loop_first, loop_end}
use Rattle.oss_grammar.specs.Statements.{IsLoopVariable, IsTested, IsStepped, IsLoopHead}
use Rattle.oss_grammar.specs.Statements.IsLoopVariable.{loop_variable}
use Rattle.oss_grammar.specs.Statements.IsTested.{tested}
use Rattle.oss_grammar.specs.Statements.IsStepped.{stepped}
use Rattle.oss_grammar.specs.Statements.IsLoopHead.{loop_head}
use Rattle.oss_grammar.proofs.Parts.{Exact, Begun, exact_as}
use Rattle.oss_grammar.proofs.PartLemmas.{Nowhere, nowhere, exact_one, exact_mapped, begun_mapped, ThenDeep}
use Rattle.oss_grammar.proofs.PartLemmas.ThenDeep.{in_first, in_second}
use Rattle.oss_grammar.proofs.PairLemmas as pairs
use Rattle.oss_expressions.specs.ExpressionReading.{former, latter}
use Rattle.oss_expressions.specs.TokenValues.{symbol_at, keyword_at, name_at, begins_expression}
use Rattle.oss_expressions.specs.declared.cursor.Named.{Named}
use Rattle.oss_expressions.proofs.ExactPairs.{Headed, HeadedDeep, exact_headed, begun_headed, Trailed, exact_trailed, BracketedDeep, Behind, exact_behind, begun_behind}
use Rattle.oss_expressions.proofs.PrimaryLemmas.{name_is, name_value, name_one}
use Rattle.oss_expressions.proofs.TokenLemmas.{goes_on, symbol_token, symbol_value, keyword_token, keyword_value, keyword_line}
use Rattle.oss_parse.specs.StatementReading.{use_of, loop_head_of, read_name_use, read_loop_step, read_loop_last, read_loop_test, read_loop_tested, read_loop_bounds, read_loop_variable, read_loop_head}
use Rattle.oss_parse.proofs.ExactSimple.{semicolon_ends}
use Rattle.oss_parse.proofs.FormLemmas.{some_keyword, some_mark, viable_both, viable_headed, viable_trailed}

abbrev some_name : Token
some_name = record { what = kinds.Name []; line = 0 }

abbrev some_named : Named
some_named = record { name = []; line = 0 }

-- a name, and a symbol behind it
abbrev Use : List ℕ → List Token → NameUse → Type 0
Use s = Mapped use_of (Headed name_at (One (symbol_at s)))

abbrev UseDeep : List Token → Token → Type 0
UseDeep = HeadedDeep name_at Nowhere

exact_use : (s : List ℕ) → symbol_at s (some_mark s) ≡ Some 0 → Exact (read_name_use s) (Use s) UseDeep never
unfolding read_name_use
exact_use s e = exact_mapped use_of (exact_headed name_at (exact_one (symbol_at s) (some_mark s) 0 e never) some_name some_named refl
    (record { more = some_mark s ∷ []; value = 0; member = record { token = some_mark s; only = refl; passes = e } }))

begun_use : (s : List ℕ) → symbol_at s (some_mark s) ≡ Some 0 → Begun (read_name_use s) (has name_at)
unfolding read_name_use
begun_use s e = begun_mapped use_of (begun_headed name_at (exact_one (symbol_at s) (some_mark s) 0 e never))

some_use : (s : List ℕ) → symbol_at s (some_mark s) ≡ Some 0 → Viable (Use s) []
some_use s e = pairs.some_text (exact_use s e) (begun_use s e)

no_use : {A : Type 0} (xs : List Token) (t : Token) → UseDeep xs t → A
no_use xs t d = nowhere d.back t d.deep

tested_of : (xs : List Token) (u : NameUse) → Use (codes "<") xs u → IsTested xs u
tested_of xs u w =
    let h = w.whole in let m = h.behind in let is = name_is h.token.what h.token.line w.part.0 h.passes in
    subst (λ (v : NameUse). IsTested xs v) (ap (λ line. record { name = w.part.0.name; line = line }) (sym is.at) ∙ w.made)
    (tested h.token m.token w.part.0.name (h.split ∙ ap (λ ys. h.token ∷ ys) m.only) is.what (symbol_token (codes "<") m.token w.part.1 m.passes))

of_tested : (xs : List Token) (u : NameUse) → IsTested xs u → Use (codes "<") xs u
of_tested xs u (tested t less word e n s) = record {
  part = (record { name = word; line = t.line }, less.line);
  made = refl;
  whole = record { token = t; back = less ∷ []; split = e; passes = name_value t word n; behind = record { token = less; only = refl; passes = symbol_value (codes "<") less s } };
}

stepped_of : (xs : List Token) (u : NameUse) → Use (codes "++") xs u → IsStepped xs u
stepped_of xs u w =
    let h = w.whole in let m = h.behind in let is = name_is h.token.what h.token.line w.part.0 h.passes in
    subst (λ (v : NameUse). IsStepped xs v) (ap (λ line. record { name = w.part.0.name; line = line }) (sym is.at) ∙ w.made)
    (stepped h.token m.token w.part.0.name (h.split ∙ ap (λ ys. h.token ∷ ys) m.only) is.what (symbol_token (codes "++") m.token w.part.1 m.passes))

of_stepped : (xs : List Token) (u : NameUse) → IsStepped xs u → Use (codes "++") xs u
of_stepped xs u (stepped t twice word e n s) = record {
  part = (record { name = word; line = t.line }, twice.line);
  made = refl;
  whole = record { token = t; back = twice ∷ []; split = e; passes = name_value t word n; behind = record { token = twice; only = refl; passes = symbol_value (codes "++") twice s } };
}

-- the beginning of the head, up to the name of the variable
abbrev LongName : List Token → Named → Type 0
LongName = Mapped latter (Headed (keyword_at (codes "long")) (One name_at))

abbrev LongNameDeep : List Token → Token → Type 0
LongNameDeep = HeadedDeep (keyword_at (codes "long")) Nowhere

exact_name : Exact (read_one name_at) (One name_at) Nowhere never
exact_name = exact_one name_at some_name some_named refl never

one_name : Viable (One name_at) []
one_name = record { more = some_name ∷ []; value = some_named; member = record { token = some_name; only = refl; passes = refl } }

exact_long_name : Exact (read_mapped latter (read_both (read_one (keyword_at (codes "long"))) (read_one name_at))) LongName LongNameDeep never
exact_long_name = exact_mapped latter (exact_headed (keyword_at (codes "long")) exact_name (some_keyword (codes "long")) 0 refl one_name)

begun_long_name : Begun (read_mapped latter (read_both (read_one (keyword_at (codes "long"))) (read_one name_at))) (has (keyword_at (codes "long")))
begun_long_name = begun_mapped latter (begun_headed (keyword_at (codes "long")) exact_name)

some_long_name : Viable LongName []
some_long_name = pairs.some_text exact_long_name begun_long_name

abbrev Opened : List Token → Named → Type 0
Opened = Behind (codes "(") LongName

abbrev OpenedDeep : List Token → Token → Type 0
OpenedDeep = BracketedDeep (codes "(") LongNameDeep

exact_opened : Exact (read_mapped latter (read_both (read_one (symbol_at (codes "("))) (read_mapped latter (read_both (read_one (keyword_at (codes "long"))) (read_one name_at))))) Opened OpenedDeep never
exact_opened = exact_behind (codes "(") exact_long_name some_long_name refl

begun_opened : Begun (read_mapped latter (read_both (read_one (symbol_at (codes "("))) (read_mapped latter (read_both (read_one (keyword_at (codes "long"))) (read_one name_at))))) (has (symbol_at (codes "(")))
begun_opened = begun_behind (codes "(") exact_long_name some_long_name refl

some_opened : Viable Opened []
some_opened = pairs.some_text exact_opened begun_opened

abbrev Variable : List Token → ℕ × Named → Type 0
Variable = Headed (keyword_at (codes "for")) Opened

abbrev VariableDeep : List Token → Token → Type 0
VariableDeep = HeadedDeep (keyword_at (codes "for")) OpenedDeep

exact_variable : Exact {A = ℕ × Named} read_loop_variable Variable VariableDeep never
unfolding read_loop_variable
exact_variable = exact_headed (keyword_at (codes "for")) exact_opened (some_keyword (codes "for")) 0 refl some_opened

begun_variable : Begun {A = ℕ × Named} read_loop_variable (has (keyword_at (codes "for")))
unfolding read_loop_variable
begun_variable = begun_headed (keyword_at (codes "for")) exact_opened

no_variable : {A : Type 0} (xs : List Token) (t : Token) → VariableDeep xs t → A
no_variable xs t d = nowhere d.deep.deep.back t d.deep.deep.deep

variable_of : (xs : List Token) (p : ℕ × Named) → Variable xs p → IsLoopVariable xs p.1.name p.1.line
variable_of xs p w =
    let b = w.behind in let m = b.behind in let k = m.whole in let n = k.behind in let is = name_is n.token.what n.token.line m.part.1 n.passes in
    subst (λ (q : Named). IsLoopVariable xs q.name q.line) m.made (subst (λ line. IsLoopVariable xs m.part.1.name line) (sym is.at)
    (loop_variable w.token b.mark k.token n.token m.part.1.name
    (w.split ∙ ap (λ ys. w.token ∷ ys) (b.split ∙ ap (λ ys. b.mark ∷ ys) (k.split ∙ ap (λ ys. k.token ∷ ys) n.only)))
    (keyword_token (codes "for") w.token p.0 w.passes) b.marks (keyword_token (codes "long") k.token m.part.0 k.passes) is.what))

variable_line : (xs : List Token) (p : ℕ × Named) → Variable xs p → first_line xs ≡ p.0
variable_line xs p w = ap first_line w.split ∙ keyword_line (codes "for") w.token p.0 w.passes

of_variable : (xs : List Token) (word : List ℕ) (line : ℕ) → IsLoopVariable xs word line → Variable xs (first_line xs, record { name = word; line = line })
of_variable xs word line (loop_variable t opened long named w e k o l n) = record {
  token = t;
  back = opened ∷ long ∷ named ∷ [];
  split = e;
  passes = keyword_value (codes "for") t k ∙ ap (λ ys. Some (first_line ys)) (sym e);
  behind = record {
    mark = opened;
    back = long ∷ named ∷ [];
    split = refl;
    marks = o;
    behind = record {
      part = (long.line, record { name = w; line = named.line });
      made = refl;
      whole = record { token = long; back = named ∷ []; split = refl; passes = keyword_value (codes "long") long l; behind = name_one named w n };
    };
  };
}

-- the end of the head, behind the second expression
abbrev Step : List Token → NameUse → Type 0
Step = Mapped former (Trailed (symbol_at (codes ")")) (Use (codes "++")))

exact_step : Exact read_loop_step Step UseDeep never
unfolding read_loop_step
exact_step = exact_mapped former (exact_trailed (symbol_at (codes ")")) (exact_use (codes "++") refl) (λ t e. refl) (some_mark (codes ")")) 0 refl)

some_step : Viable Step []
some_step = let v : Viable (Trailed (symbol_at (codes ")")) (Use (codes "++"))) [] = viable_trailed (symbol_at (codes ")")) (some_mark (codes ")")) 0 refl (some_use (codes "++") refl) in
    record { more = v.more; value = former v.value; member = record { part = v.value; made = refl; whole = v.member } }

abbrev Last : List Token → NameUse → Type 0
Last = Behind (codes ";") Step

abbrev LastDeep : List Token → Token → Type 0
LastDeep = BracketedDeep (codes ";") UseDeep

exact_last : Exact read_loop_last Last LastDeep never
unfolding read_loop_last
exact_last = exact_behind (codes ";") exact_step some_step refl

begun_last : Begun read_loop_last (has (symbol_at (codes ";")))
unfolding read_loop_last
begun_last = begun_behind (codes ";") exact_step some_step refl

module _ {expression : Reader Expr} {X : List Token → Token → Type 0} (part : Exact expression IsWhole X goes_on) (first : Begun expression begins_expression) where
  -- the parts behind the name of the variable, from the last to the first
  abbrev Limit : List Token → Expr × NameUse → Type 0
  Limit = Both IsWhole Last

  abbrev LimitDeep : List Token → Token → Type 0
  LimitDeep = ThenDeep X IsWhole (λ e. LastDeep)

  exact_limit : Exact {A = Expr × NameUse} (read_both expression read_loop_last) Limit LimitDeep never
  exact_limit = pairs.exact_both part exact_last begun_last semicolon_ends

  begun_limit : Begun {A = Expr × NameUse} (read_both expression read_loop_last) begins_expression
  begun_limit = pairs.begun_both part exact_last begun_last semicolon_ends first

  abbrev Test : List Token → NameUse × (Expr × NameUse) → Type 0
  Test = Both (Use (codes "<")) Limit

  abbrev TestDeep : List Token → Token → Type 0
  TestDeep = ThenDeep UseDeep (Use (codes "<")) (λ u. LimitDeep)

  exact_test : Exact {A = NameUse × (Expr × NameUse)} (read_loop_test expression) Test TestDeep never
  unfolding read_loop_test
  exact_test = pairs.exact_both (exact_use (codes "<") refl) exact_limit begun_limit (λ t e. refl)

  some_test : Viable Test []
  some_test = viable_both (some_use (codes "<") refl) (pairs.some_text exact_limit begun_limit)

  abbrev Tested : List Token → NameUse × (Expr × NameUse) → Type 0
  Tested = Behind (codes ";") Test

  abbrev TestedDeep : List Token → Token → Type 0
  TestedDeep = BracketedDeep (codes ";") TestDeep

  exact_tested : Exact (read_loop_tested expression) Tested TestedDeep never
  unfolding read_loop_tested
  exact_tested = exact_behind (codes ";") exact_test some_test refl

  begun_tested : Begun (read_loop_tested expression) (has (symbol_at (codes ";")))
  unfolding read_loop_tested
  begun_tested = begun_behind (codes ";") exact_test some_test refl

  abbrev Started : List Token → Expr × (NameUse × (Expr × NameUse)) → Type 0
  Started = Both IsWhole Tested

  abbrev StartedDeep : List Token → Token → Type 0
  StartedDeep = ThenDeep X IsWhole (λ e. TestedDeep)

  exact_started : Exact {A = Expr × (NameUse × (Expr × NameUse))} (read_both expression (read_loop_tested expression)) Started StartedDeep never
  exact_started = pairs.exact_both part exact_tested begun_tested semicolon_ends

  begun_started : Begun {A = Expr × (NameUse × (Expr × NameUse))} (read_both expression (read_loop_tested expression)) begins_expression
  begun_started = pairs.begun_both part exact_tested begun_tested semicolon_ends first

  some_started : Viable Started []
  some_started = pairs.some_text exact_started begun_started

  abbrev Bounds : List Token → Expr × (NameUse × (Expr × NameUse)) → Type 0
  Bounds = Behind (codes "=") Started

  abbrev BoundsDeep : List Token → Token → Type 0
  BoundsDeep = BracketedDeep (codes "=") StartedDeep

  pub exact_bounds : Exact (read_loop_bounds expression) Bounds BoundsDeep never
  unfolding read_loop_bounds
  exact_bounds = exact_behind (codes "=") exact_started some_started refl

  begun_bounds : Begun (read_loop_bounds expression) (has (symbol_at (codes "=")))
  unfolding read_loop_bounds
  begun_bounds = begun_behind (codes "=") exact_started some_started refl

  -- the head
  abbrev Head : TaskMark → List Token → LoopHead → Type 0
  Head mark = Mapped (loop_head_of mark) (Both Variable Bounds)

  abbrev HeadDeep : List Token → Token → Type 0
  HeadDeep = ThenDeep VariableDeep Variable (λ p. BoundsDeep)

  head_into : (mark : TaskMark) (xs : List Token) (h : LoopHead) → Head mark xs h → IsLoopHead mark xs h
  head_into mark xs h w =
      let v = w.whole in let set = v.behind in let start = set.behind in let ended = start.behind in let test = ended.behind in let limit = test.behind in let last = limit.behind in
      let step = last.behind in let closed = step.whole in
      let all : xs ≡ v.front ++ (set.mark ∷ (start.front ++ (ended.mark ∷ (test.front ++ (limit.front ++ (last.mark ∷ (closed.inner ++ closed.closed ∷ [])))))))
      = v.split ∙ ap (λ ys. v.front ++ ys) (set.split ∙ ap (λ ys. set.mark ∷ ys) (start.split ∙ ap (λ ys. start.front ++ ys) (ended.split ∙ ap (λ ys. ended.mark ∷ ys)
      (test.split ∙ ap (λ ys. test.front ++ ys) (limit.split ∙ ap (λ ys. limit.front ++ ys) (last.split ∙ ap (λ ys. last.mark ∷ ys) closed.split)))))) in
      subst (λ (x : LoopHead). IsLoopHead mark xs x)
      (ap (λ line. record { mark = mark; variable = counter w.part.0.1.name w.part.1.0 w.part.0.1.line; tested = w.part.1.1.0; end = w.part.1.1.1.0; stepped = w.part.1.1.1.1; for_line = line })
      (variable_line v.front w.part.0 v.before) ∙ w.made)
      (loop_head v.front set.mark start.front ended.mark test.front limit.front last.mark closed.inner closed.closed all (variable_of v.front w.part.0 v.before) set.marks
      start.before ended.marks (tested_of test.front w.part.1.1.0 test.before) limit.before last.marks
      (subst (λ (u : NameUse). IsStepped closed.inner u) step.made (stepped_of closed.inner step.part.0 closed.inside)) (symbol_token (codes ")") closed.closed step.part.1 closed.passes))

  head_back : (mark : TaskMark) (xs : List Token) (h : LoopHead) → IsLoopHead mark xs h → Head mark xs h
  head_back mark xs h (loop_head {word = word} {line = line} {first = a} {end = b} {tests = u} {steps = v} front set start ended test limit other step closed e i s w c n l d r z) = record {
    part = ((first_line front, record { name = word; line = line }), (a, (u, (b, v))));
    made = refl;
    whole = record {
      front = front;
      back = set ∷ (start ++ (ended ∷ (test ++ (limit ++ (other ∷ (step ++ (closed ∷ [])))))));
      split = e;
      before = of_variable front word line i;
      behind = record {
        mark = set;
        back = start ++ (ended ∷ (test ++ (limit ++ (other ∷ (step ++ (closed ∷ []))))));
        split = refl;
        marks = s;
        behind = record {
          front = start;
          back = ended ∷ (test ++ (limit ++ (other ∷ (step ++ (closed ∷ [])))));
          split = refl;
          before = w;
          behind = record {
            mark = ended;
            back = test ++ (limit ++ (other ∷ (step ++ (closed ∷ []))));
            split = refl;
            marks = c;
            behind = record {
              front = test;
              back = limit ++ (other ∷ (step ++ (closed ∷ [])));
              split = refl;
              before = of_tested test u n;
              behind = record {
                front = limit;
                back = other ∷ (step ++ (closed ∷ []));
                split = refl;
                before = l;
                behind = record {
                  mark = other;
                  back = step ++ (closed ∷ []);
                  split = refl;
                  marks = d;
                  behind = record {
                    part = (v, closed.line);
                    made = refl;
                    whole = record { inner = step; closed = closed; split = refl; passes = symbol_value (codes ")") closed z; inside = of_stepped step v r };
                  };
                };
              };
            };
          };
        };
      };
    };
  }

  -- where a limit is passed in it
  limit_deeper : (xs front : List Token) (set : Token) (start : List Token) (ended : Token) (test rest : List Token) (word : List ℕ) (line : ℕ) (a : Expr) (u : NameUse) (t : Token)
      → xs ≡ front ++ (set ∷ (start ++ (ended ∷ (test ++ rest)))) → IsLoopVariable front word line → IsSymbol (codes "=") set → IsWhole start a → IsSymbol (codes ";") ended → IsTested test u → LimitDeep rest t
      → IsExcessBehind OpensLoopHead X xs t
  limit_deeper xs front set start ended test rest word line a u t e v s w c n (in_first x) = record {
    front = front ++ (set ∷ (start ++ (ended ∷ test)));
    inner = rest;
    split = e ∙ sym (append_assoc front (set ∷ (start ++ (ended ∷ test))) rest ∙ ap (λ ys. front ++ (set ∷ ys)) (append_assoc start (ended ∷ test) rest));
    opens = loop_end front set start ended test refl v s w c n;
    excess = x;
  }
  limit_deeper xs front set start ended test rest word line a u t e v s w c n (in_second limit left b z l d) = no_use d.inner t d.deep

  test_deeper : (xs front : List Token) (set : Token) (start : List Token) (ended : Token) (rest : List Token) (word : List ℕ) (line : ℕ) (a : Expr) (t : Token)
      → xs ≡ front ++ (set ∷ (start ++ (ended ∷ rest))) → IsLoopVariable front word line → IsSymbol (codes "=") set → IsWhole start a → IsSymbol (codes ";") ended → TestDeep rest t
      → IsExcessBehind OpensLoopHead X xs t
  test_deeper xs front set start ended rest word line a t e v s w c (in_first d) = no_use rest t d
  test_deeper xs front set start ended rest word line a t e v s w c (in_second test left u z n d) =
      limit_deeper xs front set start ended test left word line a u t (e ∙ ap (λ ys. front ++ (set ∷ (start ++ (ended ∷ ys)))) z) v s w c (tested_of test u n) d

  started_deeper : (xs front : List Token) (set : Token) (rest : List Token) (word : List ℕ) (line : ℕ) (t : Token)
      → xs ≡ front ++ (set ∷ rest) → IsLoopVariable front word line → IsSymbol (codes "=") set → StartedDeep rest t → IsExcessBehind OpensLoopHead X xs t
  started_deeper xs front set rest word line t e v s (in_first x) = record {
    front = front ++ (set ∷ []);
    inner = rest;
    split = e ∙ sym (append_assoc front (set ∷ []) rest);
    opens = loop_first front set refl v s;
    excess = x;
  }
  started_deeper xs front set rest word line t e v s (in_second start left a z w d) =
      test_deeper xs front set start d.opened d.inner word line a t (e ∙ ap (λ ys. front ++ (set ∷ ys)) (z ∙ ap (λ ys. start ++ ys) d.split)) v s w d.opens d.deep

  head_deeper : (xs : List Token) (t : Token) → HeadDeep xs t → IsExcessBehind OpensLoopHead X xs t
  head_deeper xs t (in_first d) = no_variable xs t d
  head_deeper xs t (in_second front back p e w d) = started_deeper xs front d.opened d.inner p.1.name p.1.line t (e ∙ ap (λ ys. front ++ ys) d.split) (variable_of front p w) d.opens d.deep

  head_upper_by : (xs before inner : List Token) (t : Token) → xs ≡ before ++ inner → X inner t → OpensLoopHead before → HeadDeep xs t
  head_upper_by xs before inner t e x (loop_first {word = word} {line = line} front set b v s) =
      in_second front (set ∷ inner) (first_line front, record { name = word; line = line }) (e ∙ (ap (λ ys. ys ++ inner) b ∙ append_assoc front (set ∷ []) inner)) (of_variable front word line v)
      (record { opened = set; inner = inner; split = refl; opens = s; deep = in_first x })
  head_upper_by xs before inner t e x (loop_end {word = word} {line = line} {first = a} {tested = u} front set start ended test b v s w c n) =
      in_second front (set ∷ (start ++ (ended ∷ (test ++ inner)))) (first_line front, record { name = word; line = line })
      (e ∙ (ap (λ ys. ys ++ inner) b ∙ (append_assoc front (set ∷ (start ++ (ended ∷ test))) inner ∙ ap (λ ys. front ++ (set ∷ ys)) (append_assoc start (ended ∷ test) inner))))
      (of_variable front word line v) (record {
        opened = set;
        inner = start ++ (ended ∷ (test ++ inner));
        split = refl;
        opens = s;
        deep = in_second start (ended ∷ (test ++ inner)) a refl w (record { opened = ended; inner = test ++ inner; split = refl; opens = c; deep = in_second test inner u refl (of_tested test u n) (in_first x) });
      })

  head_upper : (xs : List Token) (t : Token) → IsExcessBehind OpensLoopHead X xs t → HeadDeep xs t
  head_upper xs t w = head_upper_by xs w.front w.inner t w.split w.excess w.opens

  pub exact_loop_head : (mark : TaskMark) → Exact (read_loop_head expression mark) (IsLoopHead mark) (IsExcessBehind OpensLoopHead X) never
  unfolding read_loop_head
  exact_loop_head mark = exact_as (head_into mark) (head_back mark) head_deeper head_upper (exact_mapped (loop_head_of mark) (pairs.exact_both exact_variable exact_bounds begun_bounds (λ t e. refl)))

  pub begun_loop_head : (mark : TaskMark) → Begun (read_loop_head expression mark) (has (keyword_at (codes "for")))
  unfolding read_loop_head
  begun_loop_head mark = begun_mapped (loop_head_of mark) (pairs.begun_both exact_variable exact_bounds begun_bounds (λ t e. refl) begun_variable)
