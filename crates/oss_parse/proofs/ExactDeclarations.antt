-- The reader of declarations is exact for each exact reader of expressions.
use Rattle.std.proofs.Common.{◌≡◌, ℕ, Bool, true, false, ◌||◌, if◌then◌else◌, List, [], ◌∷◌, ◌++◌, refl, sym, ap, ◌∙◌, subst, append_assoc, Option, Some, None, is_some}
use Rattle.std.specs.Prelude.{codes}
use Rattle.std.proofs.lemmas.List.{append-nil}
use Rattle.oss_syntax.specs.declared.token.Token.{Token}
use Rattle.oss_syntax.specs.declared.token.TokenKind.TheVariants as kinds
use Rattle.oss_syntax.specs.declared.tree.expr.Expr.{Expr}
use Rattle.oss_syntax.specs.declared.tree.program.Kind.{Kind}
use Rattle.oss_syntax.specs.declared.tree.program.Local.{Local}
use Rattle.oss_syntax.specs.declared.tree.program.NumKind.{NumKind}
use Rattle.oss_syntax.specs.declared.tree.program.NumKind.TheVariants as num
use Rattle.oss_syntax.specs.declared.tree.stmt.Stmt.{Stmt}
use Rattle.oss_grammar.specs.Expressions.{IsWhole, operator_of}
use Rattle.oss_grammar.specs.Fronts.{Viable}
use Rattle.oss_grammar.specs.Grammar.{One, Mapped, Either}
use Rattle.oss_grammar.specs.Grammar.Either.{one_way, other_way}
use Rattle.oss_grammar.specs.Levels.{IsExcessBehind}
use Rattle.oss_grammar.specs.OneToken.{is_symbol, is_keyword}
use Rattle.oss_grammar.specs.Reading.{Reader, begins, has, one_of, never, read_one, read_nothing, read_mapped, read_both, read_either}
use Rattle.oss_grammar.specs.SimpleStatements.{IsNumKind, IsDeclared, IsLocal, IsLocals, IsDeclaration, first_line}
use Rattle.oss_grammar.specs.SimpleStatements.IsNumKind.{int_kind, long_kind, unsigned_kind}
use Rattle.oss_grammar.specs.SimpleStatements.IsDeclared.{number_declared, pointer_declared}
use Rattle.oss_grammar.specs.SimpleStatements.IsLocal.{plain_local, first_local}
use Rattle.oss_grammar.specs.SimpleStatements.IsLocals.{last_local, next_local}
use Rattle.oss_grammar.specs.SimpleStatements.IsDeclaration.{declaration}
use Rattle.oss_grammar.specs.StatementLimits.{OpensLocals, OpensDeclaration}
use Rattle.oss_grammar.specs.StatementLimits.OpensLocals.{local_value, later_local}
use Rattle.oss_grammar.proofs.Parts.{Exact, Begun, exact_as, exact_before}
use Rattle.oss_grammar.proofs.PartLemmas.{Nowhere, nowhere, exact_one, begun_one, Nothing, exact_nothing, exact_mapped, begun_mapped, Then, ThenDeep, exact_then, begun_then, EitherDeep, exact_either, begun_either}
use Rattle.oss_grammar.proofs.PartLemmas.ThenDeep.{in_first, in_second}
use Rattle.oss_grammar.proofs.PartLemmas.EitherDeep.{one_deep, other_deep}
use Rattle.oss_grammar.proofs.PairLemmas.{some_text, exact_next, begun_next}
use Rattle.oss_grammar.proofs.StepLemmas.{fewer_go}
use Rattle.oss_expressions.specs.ExpressionReading.{read_list}
use Rattle.oss_expressions.specs.TokenValues.{symbol_at, keyword_at, name_at, begins_expression}
use Rattle.oss_expressions.specs.declared.cursor.Named.{Named}
use Rattle.oss_expressions.proofs.ExactPairs.{Headed, HeadedDeep, exact_headed, begun_headed, BracketedDeep, Behind, read_behind, exact_behind, begun_behind, exact_or}
use Rattle.oss_expressions.proofs.ListLemmas.{comma, Listed, ListedDeep, exact_list, begun_list}
use Rattle.oss_expressions.proofs.ListLemmas.Listed.{last_part, next_part}
use Rattle.oss_expressions.proofs.ListLemmas.ListedDeep.{deep_first, deep_later}
use Rattle.oss_expressions.proofs.PrimaryLemmas.{name_is, name_value, name_one}
use Rattle.oss_expressions.proofs.TokenLemmas.{begins_never, symbol_token, symbol_value, goes_on, on_symbol, on_keyword, not_symbol, has_symbol}
use Rattle.oss_parse.specs.SimpleReading.{single_kind_at, ulong_of, read_num_kind, begins_kind, star, pointer_to, number_of, read_declared, local_of, read_local, declared_at, read_declaration}

-- what has the line of a keyword is that keyword, and it has its line
record KeywordIs (k : List ℕ) (t : Token) (line : ℕ) : Type 0 where
  is : is_keyword k t.what ≡ true
  at : t.line ≡ line

keyword_is : (k : List ℕ) (t : Token) (line : ℕ) → keyword_at k t ≡ Some line → KeywordIs k t line
keyword_is k t line e = on (is_keyword k t.what) refl e where
  on : (b : Bool) → is_keyword k t.what ≡ b → (if b then Some t.line else None) ≡ Some line → KeywordIs k t line
  on true is told = record { is = is; at = cc }
  on false is told = absurd (cc)

keyword_value : (k : List ℕ) (t : Token) → is_keyword k t.what ≡ true → keyword_at k t ≡ Some t.line
keyword_value k t e = rw e refl

has_keyword : (k : List ℕ) (t : Token) → has (keyword_at k) t ≡ true → is_keyword k t.what ≡ true
has_keyword k t e = on (is_keyword k t.what) refl e where
  on : (b : Bool) → is_keyword k t.what ≡ b → is_some (if b then Some t.line else None) ≡ true → is_keyword k t.what ≡ true
  on true is told = is
  on false is told = absurd (cc)

-- the type of numbers, with the line of its first token
pub record IsNumKindAt (xs : List Token) (p : NumKind × ℕ) : Type 0 where
  pub typed : IsNumKind xs p.0
  pub at : first_line xs ≡ p.1

abbrev single_if : Bool → Bool → ℕ → Option (NumKind × ℕ)
single_if b c line = if b then Some (num.Int, line) else (if c then Some (num.Long, line) else None)

single_by : (t : Token) (p : NumKind × ℕ) (b c : Bool) → is_keyword (codes "int") t.what ≡ b → is_keyword (codes "long") t.what ≡ c
    → single_if b c t.line ≡ Some p → (xs : List Token) → xs ≡ t ∷ [] → IsNumKindAt xs p
single_by t p true c i l told xs e = subst (λ p. IsNumKindAt xs p) (some_is (num.Int, t.line) p told) (record { typed = int_kind t e i; at = ap first_line e }) where
  some_is : (a b : NumKind × ℕ) → Some a ≡ Some b → a ≡ b
  some_is a b e = cc
single_by t p false true i l told xs e = subst (λ p. IsNumKindAt xs p) (some_is (num.Long, t.line) p told) (record { typed = long_kind t e l; at = ap first_line e }) where
  some_is : (a b : NumKind × ℕ) → Some a ≡ Some b → a ≡ b
  some_is a b e = cc
single_by t p false false i l told xs e = absurd (cc)

single_into : (xs : List Token) (p : NumKind × ℕ) → One single_kind_at xs p → IsNumKindAt xs p
single_into xs p w = single_by w.token p (is_keyword (codes "int") w.token.what) (is_keyword (codes "long") w.token.what) refl refl w.passes xs w.only

abbrev LongKind : List Token → NumKind × ℕ → Type 0
LongKind = Mapped ulong_of (Headed (keyword_at (codes "unsigned")) (One (keyword_at (codes "long"))))

num_kind_into : (xs : List Token) (p : NumKind × ℕ) → Either (One single_kind_at) LongKind xs p → IsNumKindAt xs p
num_kind_into xs p (one_way w) = single_into xs p w
num_kind_into xs p (other_way w) =
    let n = w.whole.behind in let first = keyword_is (codes "unsigned") w.whole.token w.part.0 w.whole.passes in let second = keyword_is (codes "long") n.token w.part.1 n.passes in
    let all : xs ≡ w.whole.token ∷ n.token ∷ [] = w.whole.split ∙ ap (λ ys. w.whole.token ∷ ys) n.only in
    subst (λ p. IsNumKindAt xs p) w.made (record { typed = unsigned_kind w.whole.token n.token all first.is second.is; at = ap first_line all ∙ first.at })

not_int : (t : Token) → is_keyword (codes "long") t.what ≡ true → is_keyword (codes "int") t.what ≡ false
not_int t e = on_keyword (λ t. is_keyword (codes "int") t.what) (codes "long") false (λ line. refl) t e

single_int : (t : Token) → is_keyword (codes "int") t.what ≡ true → single_kind_at t ≡ Some (num.Int, t.line)
single_int t e = rw e refl

single_long : (t : Token) → is_keyword (codes "long") t.what ≡ true → single_kind_at t ≡ Some (num.Long, t.line)
single_long t e = rw (not_int t e) (rw e refl)

num_kind_back : (xs : List Token) (numbers : NumKind) (line : ℕ) → IsNumKind xs numbers → first_line xs ≡ line → Either (One single_kind_at) LongKind xs (numbers, line)
num_kind_back xs numbers line (int_kind t e k) at = one_way (record { token = t; only = e; passes = single_int t k ∙ ap (λ n. Some (num.Int, n)) (sym (ap first_line e) ∙ at) })
num_kind_back xs numbers line (long_kind t e k) at = one_way (record { token = t; only = e; passes = single_long t k ∙ ap (λ n. Some (num.Long, n)) (sym (ap first_line e) ∙ at) })
num_kind_back xs numbers line (unsigned_kind t u e k l) at = other_way (record {
  part = (t.line, u.line);
  made = ap (λ n. (num.Ulong, n)) (sym (ap first_line e) ∙ at);
  whole = record { token = t; back = u ∷ []; split = e; passes = keyword_value (codes "unsigned") t k; behind = record { token = u; only = refl; passes = keyword_value (codes "long") u l } };
})

unsigned_no_single : (t : Token) → has (keyword_at (codes "unsigned")) t ≡ true → has single_kind_at t ≡ false
unsigned_no_single t e = on_keyword (has single_kind_at) (codes "unsigned") false (λ line. refl) t (has_keyword (codes "unsigned") t e)

exact_long : Exact (read_one (keyword_at (codes "long"))) (One (keyword_at (codes "long"))) Nowhere never
exact_long = exact_one (keyword_at (codes "long")) (record { what = kinds.Keyword (codes "long"); line = 0 }) 0 refl never

num_kind_deeper : (xs : List Token) (t : Token) → EitherDeep Nowhere (HeadedDeep (keyword_at (codes "unsigned")) Nowhere) xs t → Nowhere xs t
num_kind_deeper xs t (one_deep d) = d
num_kind_deeper xs t (other_deep d) = nowhere d.back t d.deep

pub exact_num_kind : Exact read_num_kind IsNumKindAt Nowhere never
unfolding read_num_kind
exact_num_kind = exact_as num_kind_into (λ xs p w. num_kind_back xs p.0 p.1 w.typed w.at) num_kind_deeper (λ xs t d. one_deep d)
    (exact_or (has single_kind_at) (has (keyword_at (codes "unsigned"))) (exact_one single_kind_at (record { what = kinds.Keyword (codes "int"); line = 0 }) (num.Int, 0) refl never) (begun_one single_kind_at)
    (exact_mapped ulong_of (exact_headed (keyword_at (codes "unsigned")) exact_long (record { what = kinds.Keyword (codes "unsigned"); line = 0 }) 0 refl (some_text exact_long (begun_one (keyword_at (codes "long"))))))
    (begun_mapped ulong_of (begun_headed (keyword_at (codes "unsigned")) exact_long)) unsigned_no_single)

pub begun_num_kind : Begun read_num_kind begins_kind
unfolding read_num_kind
begun_num_kind = begun_either (has single_kind_at) (begun_one single_kind_at) (begun_mapped ulong_of (begun_headed (keyword_at (codes "unsigned")) exact_long))

-- a name, or a pointer
abbrev pub IsDeclaredAs : NumKind → List Token → Kind × Named → Type 0
IsDeclaredAs numbers xs p = IsDeclared numbers xs p.0 p.1.name p.1.line

abbrev Pointer : NumKind → List Token → Kind × Named → Type 0
Pointer numbers = Mapped (pointer_to numbers) (Headed (symbol_at (codes "*")) (One name_at))

abbrev Number : NumKind → List Token → Kind × Named → Type 0
Number numbers = Mapped (number_of numbers) (One name_at)

declared_into : (numbers : NumKind) (xs : List Token) (p : Kind × Named) → Either (Pointer numbers) (Number numbers) xs p → IsDeclaredAs numbers xs p
declared_into numbers xs p (one_way m) =
    let w = m.whole in let n = w.behind in let is = name_is n.token.what n.token.line m.part.1 n.passes in
    subst (λ p. IsDeclaredAs numbers xs p) (ap (λ k. pointer_to numbers (m.part.0, record { name = m.part.1.name; line = k })) (sym is.at) ∙ m.made)
    (pointer_declared w.token n.token m.part.1.name (w.split ∙ ap (λ ys. w.token ∷ ys) n.only) (symbol_token (codes "*") w.token m.part.0 w.passes) is.what)
declared_into numbers xs p (other_way m) =
    let n = m.whole in let is = name_is n.token.what n.token.line m.part n.passes in
    subst (λ p. IsDeclaredAs numbers xs p) (ap (λ k. number_of numbers (record { name = m.part.name; line = k })) (sym is.at) ∙ m.made)
    (number_declared n.token m.part.name n.only is.what)

declared_back : (numbers : NumKind) (xs : List Token) (k : Kind) (word : List ℕ) (line : ℕ) → IsDeclared numbers xs k word line → Either (Pointer numbers) (Number numbers) xs (k, record { name = word; line = line })
declared_back numbers xs k called line (number_declared t word e n) = other_way (record {
  part = record { name = word; line = t.line };
  made = refl;
  whole = record { token = t; only = e; passes = name_value t word n };
})
declared_back numbers xs k called line (pointer_declared mark t word e m n) = one_way (record {
  part = (mark.line, record { name = word; line = t.line });
  made = refl;
  whole = record { token = mark; back = t ∷ []; split = e; passes = symbol_value (codes "*") mark m; behind = name_one t word n };
})

declared_deeper : (xs : List Token) (t : Token) → EitherDeep (HeadedDeep (symbol_at (codes "*")) Nowhere) Nowhere xs t → Nowhere xs t
declared_deeper xs t (one_deep d) = nowhere d.back t d.deep
declared_deeper xs t (other_deep d) = d

exact_name : Exact (read_one name_at) (One name_at) Nowhere never
exact_name = exact_one name_at (record { what = kinds.Name []; line = 0 }) (record { name = []; line = 0 }) refl never

name_no_star : (t : Token) → has name_at t ≡ true → star t ≡ false
name_no_star t e = not_symbol (has name_at) (codes "*") (λ line. refl) t e

exact_pointer : (numbers : NumKind) → Exact (read_mapped (pointer_to numbers) (read_both (read_one (symbol_at (codes "*"))) (read_one name_at))) (Pointer numbers) (HeadedDeep (symbol_at (codes "*")) Nowhere) never
exact_pointer numbers = exact_mapped (pointer_to numbers) (exact_headed (symbol_at (codes "*")) exact_name (record { what = kinds.Symbol (codes "*"); line = 0 }) 0 refl (some_text exact_name (begun_one name_at)))

begun_pointer : (numbers : NumKind) → Begun (read_mapped (pointer_to numbers) (read_both (read_one (symbol_at (codes "*"))) (read_one name_at))) star
begun_pointer numbers = begun_mapped (pointer_to numbers) (begun_headed (symbol_at (codes "*")) exact_name)

pub exact_declared : (numbers : NumKind) → Exact (read_declared numbers) (IsDeclaredAs numbers) Nowhere never
unfolding read_declared
exact_declared numbers = exact_as (declared_into numbers) (λ xs p w. declared_back numbers xs p.0 p.1.name p.1.line w) declared_deeper (λ xs t d. other_deep d)
    (exact_or star (has name_at) (exact_pointer numbers) (begun_pointer numbers) (exact_mapped (number_of numbers) exact_name) (begun_mapped (number_of numbers) (begun_one name_at)) name_no_star)

pub begun_declared : (numbers : NumKind) → Begun (read_declared numbers) (one_of star (has name_at))
unfolding read_declared
begun_declared numbers = begun_either star (begun_pointer numbers) (begun_mapped (number_of numbers) (begun_one name_at))

-- the tokens with which a local, or a declaration, goes on
abbrev equals : Token → Bool
equals = has (symbol_at (codes "="))

abbrev local_goes : Token → Bool
local_goes = one_of goes_on equals

abbrev pub goes_declaration : Token → Bool
goes_declaration = one_of comma local_goes

-- no declaration goes on with a semicolon,
pub simple_ends : (t : Token) → has (symbol_at (codes ";")) t ≡ true → goes_declaration t ≡ false
unfolding operator_of
simple_ends t e = on_symbol goes_declaration (codes ";") false (λ line. refl) t (has_symbol (codes ";") t e)

-- nor with a bracket that closes
pub closed_ends_declaration : (t : Token) → has (symbol_at (codes ")")) t ≡ true → goes_declaration t ≡ false
unfolding operator_of
closed_ends_declaration t e = on_symbol goes_declaration (codes ")") false (λ line. refl) t (has_symbol (codes ")") t e)

comma_apart : (t : Token) → comma t ≡ true → local_goes t ≡ false
unfolding operator_of
comma_apart t e = on_symbol local_goes (codes ",") false (λ line. refl) t (has_symbol (codes ",") t e)

former_false : (b c : Bool) → (b || c) ≡ false → b ≡ false
former_false false c e = refl
former_false true c e = absurd (cc)

latter_false : (b c : Bool) → (b || c) ≡ false → c ≡ false
latter_false false c e = e
latter_false true c e = absurd (cc)

local_equals : (t : Token) → local_goes t ≡ false → equals t ≡ false
local_equals t e = latter_false (goes_on t) (equals t) e

local_on : (t : Token) → local_goes t ≡ false → goes_on t ≡ false
local_on t e = former_false (goes_on t) (equals t) e

module _ {expression : Reader Expr} {X : List Token → Token → Type 0} (part : Exact expression IsWhole X goes_on) (first : Begun expression begins_expression) where
  -- the first value of a local
  abbrev First : Kind × Named → List Token → Local → Type 0
  First d = Either (Mapped (λ value. local_of d (Some value)) (Behind (codes "=") IsWhole)) (Nothing (local_of d None))

  abbrev FirstDeep : List Token → Token → Type 0
  FirstDeep = EitherDeep (BracketedDeep (codes "=") X) Nowhere

  exact_first : (d : Kind × Named) → Exact (read_either equals (read_mapped (λ value. local_of d (Some value)) (read_behind (codes "=") expression)) (read_nothing (local_of d None))) (First d) FirstDeep local_goes
  exact_first d = exact_either equals
      (exact_mapped (λ value. local_of d (Some value)) (exact_behind (codes "=") (exact_before goes_on local_goes (λ rest free. fewer_go local_goes goes_on local_on rest free) part) (some_text part first) refl))
      (begun_mapped (λ value. local_of d (Some value)) (begun_behind (codes "=") part (some_text part first) refl)) (exact_nothing (local_of d None) local_goes)
      (λ ys b rest w free. ap (λ zs. begins equals (zs ++ rest)) w.nothing ∙ fewer_go local_goes equals local_equals rest free)
      (λ ys t rest w. nowhere ys t w)

  first_viable : (d : Kind × Named) → Viable (First d) []
  first_viable d = record { more = []; value = local_of d None; member = other_way (record { nothing = refl; same = refl }) }

  -- where a limit is passed in a local
  record LocalDeep (numbers : NumKind) (xs : List Token) (t : Token) : Type 0 where
    k : Kind
    word : List ℕ
    line : ℕ
    front : List Token
    mark : Token
    inner : List Token
    split : xs ≡ front ++ (mark ∷ inner)
    declared : IsDeclared numbers front k word line
    marks : is_symbol (codes "=") mark.what ≡ true
    excess : X inner t

  local_into_by : (numbers : NumKind) (xs front back : List Token) (d : Kind × Named) (l : Local) → xs ≡ front ++ back → IsDeclaredAs numbers front d → First d back l → IsLocal numbers xs l
  local_into_by numbers xs front back d l e w (one_way m) =
      subst (λ l. IsLocal numbers xs l) m.made (first_local front m.whole.mark m.whole.back (e ∙ ap (λ ys. front ++ ys) m.whole.split) m.whole.marks w m.whole.behind)
  local_into_by numbers xs front back d l e w (other_way m) =
      let same : xs ≡ front = e ∙ (ap (λ ys. front ++ ys) m.nothing ∙ append-nil front) in
      subst (λ l. IsLocal numbers xs l) m.same (plain_local (subst (λ ys. IsDeclaredAs numbers ys d) (sym same) w))

  local_into : (numbers : NumKind) (xs : List Token) (l : Local) → Then (IsDeclaredAs numbers) First xs l → IsLocal numbers xs l
  local_into numbers xs l w = local_into_by numbers xs w.front w.back w.value l w.split w.before w.behind

  local_back : (numbers : NumKind) (xs : List Token) (l : Local) → IsLocal numbers xs l → Then (IsDeclaredAs numbers) First xs l
  local_back numbers xs l (plain_local {k = k} {word = word} {line = line} w) =
      record { front = xs; back = []; value = (k, record { name = word; line = line }); split = sym (append-nil xs); before = w; behind = other_way (record { nothing = refl; same = refl }) }
  local_back numbers xs l (first_local {k = k} {word = word} {line = line} {value = value} front mark back e m w v) = record {
    front = front;
    back = mark ∷ back;
    value = (k, record { name = word; line = line });
    split = e;
    before = w;
    behind = one_way (record { part = value; made = refl; whole = record { mark = mark; back = back; split = refl; marks = m; behind = v } });
  }

  local_deeper : (numbers : NumKind) (xs : List Token) (t : Token) → ThenDeep Nowhere (IsDeclaredAs numbers) (λ d. FirstDeep) xs t → LocalDeep numbers xs t
  local_deeper numbers xs t (in_first d) = nowhere xs t d
  local_deeper numbers xs t (in_second front back a e w (other_deep d)) = nowhere back t d
  local_deeper numbers xs t (in_second front back a e w (one_deep d)) = record {
    k = a.0;
    word = a.1.name;
    line = a.1.line;
    front = front;
    mark = d.opened;
    inner = d.inner;
    split = e ∙ ap (λ ys. front ++ ys) d.split;
    declared = w;
    marks = d.opens;
    excess = d.deep;
  }

  local_upper : (numbers : NumKind) (xs : List Token) (t : Token) → LocalDeep numbers xs t → ThenDeep Nowhere (IsDeclaredAs numbers) (λ d. FirstDeep) xs t
  local_upper numbers xs t w = in_second w.front (w.mark ∷ w.inner) (w.k, record { name = w.word; line = w.line }) w.split w.declared (one_deep (record { opened = w.mark; inner = w.inner; split = refl; opens = w.marks; deep = w.excess }))

  exact_local : (numbers : NumKind) → Exact (read_local expression numbers) (IsLocal numbers) (LocalDeep numbers) local_goes
  unfolding read_local
  exact_local numbers = exact_as (local_into numbers) (local_back numbers) (local_deeper numbers) (local_upper numbers)
      (exact_then (exact_declared numbers) exact_first (λ d ys b rest w free. begins_never (ys ++ rest)) (λ d ys t rest w. begins_never (ys ++ (t ∷ rest))) first_viable)

  begun_local : (numbers : NumKind) → Begun (read_local expression numbers) (one_of star (has name_at))
  unfolding read_local
  begun_local numbers = begun_then (exact_declared numbers) exact_first (λ d ys b rest w free. begins_never (ys ++ rest)) (λ d ys t rest w. begins_never (ys ++ (t ∷ rest))) first_viable (begun_declared numbers)

  -- lists of locals
  locals_into : (numbers : NumKind) (xs : List Token) (ls : List Local) → Listed (IsLocal numbers) xs ls → IsLocals numbers xs ls
  locals_into numbers xs ls (last_part w) = last_local w
  locals_into numbers xs ls (next_part {more = more} front mark back e c w r) = next_local front mark back e c w (locals_into numbers back more r)

  locals_back : (numbers : NumKind) (xs : List Token) (ls : List Local) → IsLocals numbers xs ls → Listed (IsLocal numbers) xs ls
  locals_back numbers xs ls (last_local w) = last_part w
  locals_back numbers xs ls (next_local {more = more} front mark back e c w r) = next_part front mark back e c w (locals_back numbers back more r)

  locals_deeper : (numbers : NumKind) (xs : List Token) (t : Token) → ListedDeep (IsLocal numbers) (LocalDeep numbers) xs t → IsExcessBehind (OpensLocals numbers) X xs t
  locals_deeper numbers xs t (deep_first d) = record {
    front = d.front ++ (d.mark ∷ []);
    inner = d.inner;
    split = d.split ∙ sym (append_assoc d.front (d.mark ∷ []) d.inner);
    opens = local_value d.front d.mark refl d.declared d.marks;
    excess = d.excess;
  }
  locals_deeper numbers xs t (deep_later l front mark back e w c d) = let x = locals_deeper numbers back t d in record {
    front = front ++ (mark ∷ x.front);
    inner = x.inner;
    split = e ∙ (ap (λ ys. front ++ (mark ∷ ys)) x.split ∙ sym (append_assoc front (mark ∷ x.front) x.inner));
    opens = later_local front mark x.front refl w c x.opens;
    excess = x.excess;
  }

  locals_upper_by : (numbers : NumKind) (before inner : List Token) (t : Token) → X inner t → OpensLocals numbers before → ListedDeep (IsLocal numbers) (LocalDeep numbers) (before ++ inner) t
  locals_upper_by numbers before inner t x (local_value {k = k} {word = word} {line = line} front mark e w m) = deep_first (record {
    k = k;
    word = word;
    line = line;
    front = front;
    mark = mark;
    inner = inner;
    split = ap (λ ys. ys ++ inner) e ∙ append_assoc front (mark ∷ []) inner;
    declared = w;
    marks = m;
    excess = x;
  })
  locals_upper_by numbers before inner t x (later_local {l = l} front mark back e w c o) =
      deep_later l front mark (back ++ inner) (ap (λ ys. ys ++ inner) e ∙ append_assoc front (mark ∷ back) inner) w c (locals_upper_by numbers back inner t x o)

  locals_upper : (numbers : NumKind) (xs : List Token) (t : Token) → IsExcessBehind (OpensLocals numbers) X xs t → ListedDeep (IsLocal numbers) (LocalDeep numbers) xs t
  locals_upper numbers xs t w = subst (λ ys. ListedDeep (IsLocal numbers) (LocalDeep numbers) ys t) (sym w.split) (locals_upper_by numbers w.front w.inner t w.excess w.opens)

  pub exact_locals : (numbers : NumKind) → Exact (read_list (read_local expression numbers)) (IsLocals numbers) (IsExcessBehind (OpensLocals numbers) X) goes_declaration
  exact_locals numbers = exact_as (locals_into numbers) (locals_back numbers) (locals_deeper numbers) (locals_upper numbers) (exact_list (exact_local numbers) (begun_local numbers) comma_apart)

  pub begun_locals : (numbers : NumKind) → Begun (read_list (read_local expression numbers)) (one_of star (has name_at))
  begun_locals numbers = begun_list (exact_local numbers) (begun_local numbers) comma_apart

  -- declarations
  abbrev Declares : NumKind × ℕ → List Token → Stmt → Type 0
  Declares k = Mapped (declared_at k.1) (IsLocals k.0)

  abbrev DeclaresDeep : NumKind × ℕ → List Token → Token → Type 0
  DeclaresDeep k = IsExcessBehind (OpensLocals k.0) X

  exact_declares : (k : NumKind × ℕ) → Exact (read_mapped (declared_at k.1) (read_list (read_local expression k.0))) (Declares k) (DeclaresDeep k) goes_declaration
  exact_declares k = exact_mapped (declared_at k.1) (exact_locals k.0)

  begun_declares : (k : NumKind × ℕ) → Begun (read_mapped (declared_at k.1) (read_list (read_local expression k.0))) (one_of star (has name_at))
  begun_declares k = begun_mapped (declared_at k.1) (begun_locals k.0)

  declaration_into : (xs : List Token) (s : Stmt) → Then IsNumKindAt Declares xs s → IsDeclaration xs s
  declaration_into xs s w = let m = w.behind in
      subst (λ s. IsDeclaration xs s) (ap (λ k. declared_at k m.part) w.before.at ∙ m.made) (declaration w.front w.back w.split w.before.typed m.whole)

  declaration_back : (xs : List Token) (s : Stmt) → IsDeclaration xs s → Then IsNumKindAt Declares xs s
  declaration_back xs s (declaration {numbers = numbers} {locals = locals} front back e w v) = record {
    front = front;
    back = back;
    value = (numbers, first_line front);
    split = e;
    before = record { typed = w; at = refl };
    behind = record { part = locals; made = refl; whole = v };
  }

  declaration_deeper : (xs : List Token) (t : Token) → ThenDeep Nowhere IsNumKindAt DeclaresDeep xs t → IsExcessBehind OpensDeclaration X xs t
  declaration_deeper xs t (in_first d) = nowhere xs t d
  declaration_deeper xs t (in_second front back k e w d) = record {
    front = front ++ d.front;
    inner = d.inner;
    split = e ∙ (ap (λ ys. front ++ ys) d.split ∙ sym (append_assoc front d.front d.inner));
    opens = record { numbers = k.0; front = front; back = d.front; split = refl; typed = w.typed; opens = d.opens };
    excess = d.excess;
  }

  declaration_upper : (xs : List Token) (t : Token) → IsExcessBehind OpensDeclaration X xs t → ThenDeep Nowhere IsNumKindAt DeclaresDeep xs t
  declaration_upper xs t w = let o = w.opens in
      in_second o.front (o.back ++ w.inner) (o.numbers, first_line o.front) (w.split ∙ (ap (λ ys. ys ++ w.inner) o.split ∙ append_assoc o.front o.back w.inner)) (record { typed = o.typed; at = refl })
      (record { front = o.back; inner = w.inner; split = refl; opens = o.opens; excess = w.excess })

  pub exact_declaration : Exact (read_declaration expression) IsDeclaration (IsExcessBehind OpensDeclaration X) goes_declaration
  unfolding read_declaration
  exact_declaration = exact_as declaration_into declaration_back declaration_deeper declaration_upper (exact_next exact_num_kind exact_declares begun_declares (λ k t e. refl))

  pub begun_declaration : Begun (read_declaration expression) begins_kind
  unfolding read_declaration
  begun_declaration = begun_next exact_num_kind exact_declares begun_declares (λ k t e. refl) begun_num_kind
