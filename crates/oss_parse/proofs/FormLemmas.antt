-- The forms of statements are read exactly, if what stands in them is.
use Rattle.std.proofs.Common.{◌≡◌, ℕ, Bool, true, false, ◌||◌, List, [], ◌∷◌, ◌++◌, refl, sym, ap, ◌∙◌, subst, ◌⊎◌, inl, inr, Option, Some, None, Result, Ok, Err}
use Rattle.std.specs.Prelude.{codes}
use Rattle.oss_syntax.specs.declared.token.Token.{Token}
use Rattle.oss_syntax.specs.declared.token.TokenKind.{TokenKind}
use Rattle.oss_syntax.specs.declared.token.TokenKind.TheVariants as kinds
use Rattle.oss_syntax.specs.declared.tree.expr.Expr.{Expr}
use Rattle.oss_syntax.specs.declared.tree.stmt.Stmt.{Stmt}
use Rattle.oss_grammar.specs.Expressions.{IsWhole, operator_of, prefix_of}
use Rattle.oss_grammar.specs.Fronts.{Viable}
use Rattle.oss_grammar.specs.Grammar.{One, Both, Mapped, Either}
use Rattle.oss_grammar.specs.Grammar.Either.{one_way, other_way}
use Rattle.oss_grammar.specs.Levels.{IsExcessBehind}
use Rattle.oss_grammar.specs.Reading.{Stop, Reader, begins, has, never, one_of, go_on, read_one, read_nothing, read_mapped, read_both, read_either}
use Rattle.oss_grammar.specs.Reading.Stop.{Syntax, Deep}
use Rattle.oss_grammar.specs.SimpleStatements.{IsSimple, IsDeclaration, first_line, step_of}
use Rattle.oss_grammar.specs.StatementLimits.{OpensSimple, OpensDeclaration}
use Rattle.oss_grammar.proofs.Parts.{IsRead, Sinks, Exact, Begun, exact_before, member_begins, deep_begins, not_empty, takes_some}
use Rattle.oss_grammar.proofs.PartLemmas.{Nowhere, nowhere, Nothing, exact_one, exact_nothing, exact_mapped, begun_mapped, ThenDeep, EitherDeep, exact_either}
use Rattle.oss_grammar.proofs.PairLemmas as pairs
use Rattle.oss_grammar.proofs.StepLemmas.{none_goes, fewer_go}
use Rattle.oss_expressions.specs.ExpressionReading.{former, latter, middle}
use Rattle.oss_expressions.specs.TokenValues.{symbol_at, keyword_at, begins_expression}
use Rattle.oss_expressions.proofs.ExactPairs.{Headed, HeadedDeep, exact_headed, begun_headed, Trailed, exact_trailed, Bracketed, BracketedDeep, exact_bracketed, bracketed_viable, Behind, exact_behind}
use Rattle.oss_expressions.proofs.ListLemmas.{comma, Follow, FollowDeep, exact_follow}
use Rattle.oss_expressions.proofs.ListLemmas.Follow.{none}
use Rattle.oss_expressions.proofs.TokenLemmas.{goes_on, on_symbol, has_symbol}
use Rattle.oss_parse.specs.SimpleReading.{read_simple, begins_simple, read_declaration, begins_kind}
use Rattle.oss_parse.specs.declared.forms.ForParts.{ForParts}
use Rattle.oss_parse.specs.StatementReading.{read_maybe_expression, read_maybe_simple, read_for_first, for_parts, read_for_parts, read_for_head, read_head, read_printed, read_lined}

-- a token with this keyword
abbrev pub some_keyword : List ℕ → Token
some_keyword s = record { what = kinds.Keyword s; line = 0 }

abbrev pub some_mark : List ℕ → Token
some_mark s = record { what = kinds.Symbol s; line = 0 }

pub viable_both : {A B : Type 0} {U : List Token → A → Type 0} {V : List Token → B → Type 0} → Viable U [] → Viable V [] → Viable (Both U V) []
viable_both v w = record { more = v.more ++ w.more; value = (v.value, w.value); member = record { front = v.more; back = w.more; split = refl; before = v.member; behind = w.member } }

pub viable_headed : {A B : Type 0} (test : Token → Option A) {V : List Token → B → Type 0} (t : Token) (a : A) → test t ≡ Some a → Viable V [] → Viable (Headed test V) []
viable_headed test t a e v = record { more = t ∷ v.more; value = (a, v.value); member = record { token = t; back = v.more; split = refl; passes = e; behind = v.member } }

pub viable_trailed : {A B : Type 0} (test : Token → Option B) {U : List Token → A → Type 0} (t : Token) (b : B) → test t ≡ Some b → Viable U [] → Viable (Trailed test U) []
viable_trailed test t b e v = record { more = v.more ++ (t ∷ []); value = (v.value, b); member = record { inner = v.more; closed = t; split = refl; passes = e; inside = v.member } }

-- a part, or nothing, which a token begins with which the part goes on with nothing
module _ {A : Type 0} {f : Reader A} {U : List Token → A → Type 0} {B : List Token → Token → Type 0} {goes starts : Token → Bool} (part : Exact f U B goes) (first : Begun f starts) where
  abbrev Perhaps : List Token → Option A → Type 0
  Perhaps = Either (Mapped Some U) (Nothing None)

  former_false : (b c : Bool) → (b || c) ≡ false → b ≡ false
  former_false false c e = refl
  former_false true c e = absurd (cc)

  latter_false : (b c : Bool) → (b || c) ≡ false → c ≡ false
  latter_false false c e = e
  latter_false true c e = absurd (cc)

  pub exact_maybe : Exact (read_either starts (read_mapped Some f) (read_nothing None)) Perhaps (EitherDeep B Nowhere) (one_of starts goes)
  exact_maybe = exact_either starts (exact_before goes (one_of starts goes) (λ rest free. fewer_go (one_of starts goes) goes (λ t e. latter_false (starts t) (goes t) e) rest free) (exact_mapped Some part))
      (begun_mapped Some first) (exact_nothing None (one_of starts goes))
      (λ ys e rest w free. ap (λ zs. begins starts (zs ++ rest)) w.nothing ∙ fewer_go (one_of starts goes) starts (λ t e. former_false (starts t) (goes t) e) rest free) (λ ys t rest w. nowhere ys t w)

  pub viable_maybe : Viable Perhaps []
  viable_maybe = record { more = []; value = None; member = other_way (record { nothing = refl; same = refl }) }

-- a part with the line of its first token
module _ {A : Type 0} {f : Reader A} {U : List Token → A → Type 0} {B : List Token → Token → Type 0} {starts : Token → Bool} (part : Exact f U B never) (first : Begun f starts) where
  pub record Lined (xs : List Token) (p : A × ℕ) : Type 0 where
    pub is : U xs p.0
    pub at : first_line xs ≡ p.1

  line_front : (xs ys : List Token) → (xs ≡ [] → ⊥) → first_line (xs ++ ys) ≡ first_line xs
  line_front [] ys some = absurd (some refl)
  line_front (x ∷ xs) ys some = refl

  abbrev lined : List Token → Result (A × List Token) Stop → Result ((A × ℕ) × List Token) Stop
  lined ts o = go_on o (λ a rest. Ok ((a, first_line ts), rest))

  lined_read : (ts : List Token) (r : Result (A × List Token) Stop) → f ts ≡ r → IsRead f U B ts r → IsRead (read_lined f) Lined B ts (lined ts r)
  lined_read ts (Ok p) e w =
      let some : w.front ≡ [] → ⊥ = takes_some part first ts p.0 p.1 e w in
      let line : first_line ts ≡ first_line w.front = ap first_line w.split ∙ line_front w.front p.1 some in record {
        front = w.front;
        split = w.split;
        whole = record { is = w.whole; at = sym line };
        steady = λ other same. ap (λ o. lined (w.front ++ other) o) (w.steady other same) ∙ ap (λ n. Ok ((p.0, n), other)) (line_front w.front other some ∙ sym line);
      }
  lined_read ts (Err (Syntax place)) e w = record {
    front = w.front;
    split = w.split;
    viable = record { more = w.viable.more; value = (w.viable.value, first_line (w.front ++ w.viable.more)); member = record { is = w.viable.member; at = refl } };
    steady = λ other same. ap (λ o. lined (w.front ++ other) o) (w.steady other same);
  }
  lined_read ts (Err (Deep place)) e w = w

  lined_sinks : (xs : List Token) → Sinks f B xs → Sinks (read_lined f) B xs
  lined_sinks xs s = record { front = s.front; token = s.token; more = s.more; split = s.split; deep = s.deep; steady = λ other. ap (λ o. lined (s.front ++ (s.token ∷ other)) o) (s.steady other) }

  lined_again : (xs : List Token) (p : A × ℕ) → Lined xs p → ((rest : List Token) → begins never rest ≡ false → f (xs ++ rest) ≡ Ok (p.0, rest)) ⊎ Sinks f B xs
      → ((rest : List Token) → begins never rest ≡ false → read_lined f (xs ++ rest) ≡ Ok (p, rest)) ⊎ Sinks (read_lined f) B xs
  lined_again xs p w (inl read) = inl (λ rest free. ap (λ o. lined (xs ++ rest) o) (read rest free)
      ∙ ap (λ n. Ok ((p.0, n), rest)) (line_front xs rest (λ none. not_empty part first p.0 (subst (λ ys. U ys p.0) none w.is)) ∙ w.at))
  lined_again xs p w (inr s) = inr (lined_sinks xs s)

  pub exact_lined : Exact (read_lined f) Lined B never
  exact_lined = record {
    reads = λ ts. lined_read ts (f ts) refl (part.reads ts);
    again = λ xs p w. lined_again xs p w (part.again xs p.0 w.is);
    sinks = λ xs t w. lined_sinks (xs ++ (t ∷ [])) (part.sinks xs t w);
    begun = λ xs t w. let v = part.begun xs t w in record { more = v.more; value = (v.value, first_line ((xs ++ (t ∷ [])) ++ v.more)); member = record { is = v.member; at = refl } };
  }

  lined_accepts : (t : Token) (rest : List Token) (r : Result (A × List Token) Stop) → f (t ∷ rest) ≡ r → (f (t ∷ rest) ≡ Err (Syntax (t ∷ rest)) → ⊥) → lined (t ∷ rest) r ≡ Err (Syntax (t ∷ rest)) → ⊥
  lined_accepts t rest (Ok p) e no_stop told = absurd (cc)
  lined_accepts t rest (Err stop) e no_stop told = no_stop (e ∙ cc)

  pub begun_lined : Begun (read_lined f) starts
  begun_lined = record {
    accepts = λ t rest s told. lined_accepts t rest (f (t ∷ rest)) refl (first.accepts t rest s) told;
    refuses = λ ts s. ap (λ o. lined ts o) (first.refuses ts s);
  }

none_or : (b c : Bool) → b ≡ false → c ≡ false → (b || c) ≡ false
none_or false c e e' = e'
none_or true c e e' = e

-- the parts of statements that hold no statements
module _ {expression : Reader Expr} {X : List Token → Token → Type 0} (part : Exact expression IsWhole X goes_on) (first : Begun expression begins_expression) {goes_declaration : Token → Bool}
    (simple : Exact (read_simple expression) IsSimple (IsExcessBehind OpensSimple X) goes_on) (first_simple : Begun (read_simple expression) begins_simple)
    (declared : Exact (read_declaration expression) IsDeclaration (IsExcessBehind OpensDeclaration X) goes_declaration) (first_declared : Begun (read_declaration expression) begins_kind)
    (declaration_ends : (t : Token) → has (symbol_at (codes ";")) t ≡ true → goes_declaration t ≡ false) where
  abbrev SimpleX : List Token → Token → Type 0
  SimpleX = IsExcessBehind OpensSimple X

  abbrev DeclarationX : List Token → Token → Type 0
  DeclarationX = IsExcessBehind OpensDeclaration X

  close_ends : (t : Token) → has (symbol_at (codes ")")) t ≡ true → goes_on t ≡ false
  unfolding operator_of
  close_ends t e = on_symbol goes_on (codes ")") false (λ line. refl) t (has_symbol (codes ")") t e)

  close_ends_simple : (t : Token) → has (symbol_at (codes ")")) t ≡ true → one_of begins_simple goes_on t ≡ false
  unfolding operator_of step_of
  close_ends_simple t e = on_symbol (one_of begins_simple goes_on) (codes ")") false (λ line. refl) t (has_symbol (codes ")") t e)

  mark_ends : (t : Token) → has (symbol_at (codes ";")) t ≡ true → goes_on t ≡ false
  unfolding operator_of
  mark_ends t e = on_symbol goes_on (codes ";") false (λ line. refl) t (has_symbol (codes ";") t e)

  mark_ends_maybe : (t : Token) → has (symbol_at (codes ";")) t ≡ true → one_of begins_expression goes_on t ≡ false
  unfolding operator_of prefix_of
  mark_ends_maybe t e = on_symbol (one_of begins_expression goes_on) (codes ";") false (λ line. refl) t (has_symbol (codes ";") t e)

  mark_ends_simple : (t : Token) → has (symbol_at (codes ";")) t ≡ true → one_of begins_simple goes_on t ≡ false
  unfolding operator_of step_of
  mark_ends_simple t e = on_symbol (one_of begins_simple goes_on) (codes ";") false (λ line. refl) t (has_symbol (codes ";") t e)

  mark_no_kind : (t : Token) → has (symbol_at (codes ";")) t ≡ true → begins_kind t ≡ false
  mark_no_kind t e = on_symbol begins_kind (codes ";") false (λ line. refl) t (has_symbol (codes ";") t e)

  -- a keyword and a test in brackets
  abbrev pub Test : List Token → Expr → Type 0
  Test = Bracketed (codes "(") (codes ")") IsWhole

  exact_test : Exact (read_mapped middle (read_both (read_one (symbol_at (codes "("))) (read_both expression (read_one (symbol_at (codes ")")))))) Test (BracketedDeep (codes "(") X) never
  exact_test = exact_bracketed (codes "(") (codes ")") part (pairs.some_text part first) close_ends refl refl

  pub exact_head : (word : List ℕ) → keyword_at word (some_keyword word) ≡ Some 0 → Exact {A = ℕ × Expr} (read_head word expression) (Headed (keyword_at word) Test) (HeadedDeep (keyword_at word) (BracketedDeep (codes "(") X)) never
  unfolding read_head
  exact_head word e = exact_headed (keyword_at word) exact_test (some_keyword word) 0 e (bracketed_viable (codes "(") (codes ")") refl refl (pairs.some_text part first))

  pub begun_head : (word : List ℕ) → Begun {A = ℕ × Expr} (read_head word expression) (has (keyword_at word))
  unfolding read_head
  begun_head word = begun_headed (keyword_at word) exact_test

  -- an expression, or none; a simple statement, or none
  abbrev MaybeE : List Token → Option Expr → Type 0
  MaybeE = Either (Mapped Some IsWhole) (Nothing None)

  pub exact_maybe_expression : Exact (read_maybe_expression expression) MaybeE (EitherDeep X Nowhere) (one_of begins_expression goes_on)
  unfolding read_maybe_expression
  exact_maybe_expression = exact_maybe part first

  abbrev MaybeS : List Token → Option Stmt → Type 0
  MaybeS = Either (Mapped Some IsSimple) (Nothing None)

  exact_maybe_simple : Exact (read_maybe_simple expression) MaybeS (EitherDeep SimpleX Nowhere) (one_of begins_simple goes_on)
  unfolding read_maybe_simple
  exact_maybe_simple = exact_maybe simple first_simple

  -- the first part of a `for`
  abbrev First : List Token → Option Stmt → Type 0
  First = Either (Mapped Some IsDeclaration) MaybeS

  abbrev goes_first : Token → Bool
  goes_first = one_of begins_kind (one_of goes_declaration (one_of begins_simple goes_on))

  not_kind : (t : Token) → begins_simple t ≡ true → begins_kind t ≡ false
  unfolding step_of
  not_kind t e = on t.what e where
    on : (k : TokenKind) → begins_simple (record { what = k; line = t.line }) ≡ true → begins_kind (record { what = k; line = t.line }) ≡ false
    on (kinds.Name w) e = refl
    on (kinds.Symbol w) e = refl
    on (kinds.Keyword w) e = absurd (cc)
    on (kinds.Number v u) e = refl
    on (kinds.Text w) e = refl
    on kinds.PragmaOss e = refl
    on kinds.PragmaEnd e = refl
    on kinds.Directive e = refl

  or_first : (a b c : Bool) → (a || (b || c)) ≡ false → a ≡ false
  or_first false b c e = refl
  or_first true b c e = absurd (cc)

  or_second : (a b c : Bool) → (a || (b || c)) ≡ false → b ≡ false
  or_second true b c e = absurd (cc)
  or_second false false c e = refl
  or_second false true c e = absurd (cc)

  or_third : (a b c : Bool) → (a || (b || c)) ≡ false → c ≡ false
  or_third true b c e = absurd (cc)
  or_third false true c e = absurd (cc)
  or_third false false c e = e

  free_kind : (rest : List Token) → begins goes_first rest ≡ false → begins begins_kind rest ≡ false
  free_kind rest free = fewer_go goes_first begins_kind (λ t e. or_first (begins_kind t) (goes_declaration t) (one_of begins_simple goes_on t) e) rest free

  kind_apart : (ys : List Token) (s : Option Stmt) (rest : List Token) → MaybeS ys s → begins goes_first rest ≡ false → begins begins_kind (ys ++ rest) ≡ false
  kind_apart ys s rest (one_way w) free = none_goes begins_simple begins_kind not_kind (ys ++ rest) (member_begins simple first_simple ys w.part rest w.whole)
  kind_apart ys s rest (other_way w) free = ap (λ zs. begins begins_kind (zs ++ rest)) w.nothing ∙ free_kind rest free

  kind_apart_deep : (ys : List Token) (t : Token) (rest : List Token) → EitherDeep SimpleX Nowhere ys t → begins begins_kind (ys ++ (t ∷ rest)) ≡ false
  kind_apart_deep ys t rest (EitherDeep.one_deep w) = none_goes begins_simple begins_kind not_kind (ys ++ (t ∷ rest)) (deep_begins simple first_simple ys t rest w)
  kind_apart_deep ys t rest (EitherDeep.other_deep w) = nowhere ys t w

  exact_for_first : Exact (read_for_first expression) First (EitherDeep DeclarationX (EitherDeep SimpleX Nowhere)) goes_first
  unfolding read_for_first
  exact_for_first = exact_either begins_kind
      (exact_before goes_declaration goes_first (λ rest free. fewer_go goes_first goes_declaration (λ t e. or_second (begins_kind t) (goes_declaration t) (one_of begins_simple goes_on t) e) rest free) (exact_mapped Some declared))
      (begun_mapped Some first_declared)
      (exact_before (one_of begins_simple goes_on) goes_first (λ rest free. fewer_go goes_first (one_of begins_simple goes_on) (λ t e. or_third (begins_kind t) (goes_declaration t) (one_of begins_simple goes_on t) e) rest free) exact_maybe_simple)
      kind_apart kind_apart_deep

  mark_ends_first : (t : Token) → has (symbol_at (codes ";")) t ≡ true → goes_first t ≡ false
  mark_ends_first t e = none_or (begins_kind t) (one_of goes_declaration (one_of begins_simple goes_on) t) (mark_no_kind t e) (none_or (goes_declaration t) (one_of begins_simple goes_on t) (declaration_ends t e) (mark_ends_simple t e))

  -- the parts of a `for`
  abbrev End : List Token → Option Stmt × ℕ → Type 0
  End = Trailed (symbol_at (codes ")")) MaybeS

  exact_end : Exact {A = Option Stmt × ℕ} (read_both (read_maybe_simple expression) (read_one (symbol_at (codes ")")))) End (EitherDeep SimpleX Nowhere) never
  exact_end = exact_trailed (symbol_at (codes ")")) exact_maybe_simple close_ends_simple (some_mark (codes ")")) 0 refl

  none_simple : Viable MaybeS []
  none_simple = record { more = []; value = None; member = other_way (record { nothing = refl; same = refl }) }

  none_expression : Viable MaybeE []
  none_expression = record { more = []; value = None; member = other_way (record { nothing = refl; same = refl }) }

  some_end : Viable End []
  some_end = viable_trailed (symbol_at (codes ")")) (some_mark (codes ")")) 0 refl none_simple

  abbrev Last : List Token → ℕ × (Option Stmt × ℕ) → Type 0
  Last = Headed (symbol_at (codes ";")) End

  abbrev LastDeep : List Token → Token → Type 0
  LastDeep = HeadedDeep (symbol_at (codes ";")) (EitherDeep SimpleX Nowhere)

  exact_last : Exact {A = ℕ × (Option Stmt × ℕ)} (read_both (read_one (symbol_at (codes ";"))) (read_both (read_maybe_simple expression) (read_one (symbol_at (codes ")"))))) Last LastDeep never
  exact_last = exact_headed (symbol_at (codes ";")) exact_end (some_mark (codes ";")) 0 refl some_end

  begun_last : Begun {A = ℕ × (Option Stmt × ℕ)} (read_both (read_one (symbol_at (codes ";"))) (read_both (read_maybe_simple expression) (read_one (symbol_at (codes ")"))))) (has (symbol_at (codes ";")))
  begun_last = begun_headed (symbol_at (codes ";")) exact_end

  some_last : Viable Last []
  some_last = viable_headed (symbol_at (codes ";")) (some_mark (codes ";")) 0 refl some_end

  abbrev Middle : List Token → Option Expr × (ℕ × (Option Stmt × ℕ)) → Type 0
  Middle = Both MaybeE Last

  abbrev MiddleDeep : List Token → Token → Type 0
  MiddleDeep = ThenDeep (EitherDeep X Nowhere) MaybeE (λ e. LastDeep)

  exact_middle : Exact {A = Option Expr × (ℕ × (Option Stmt × ℕ))}
      (read_both (read_maybe_expression expression) (read_both (read_one (symbol_at (codes ";"))) (read_both (read_maybe_simple expression) (read_one (symbol_at (codes ")")))))) Middle MiddleDeep never
  exact_middle = pairs.exact_both exact_maybe_expression exact_last begun_last mark_ends_maybe

  abbrev Rest : List Token → ℕ × (Option Expr × (ℕ × (Option Stmt × ℕ))) → Type 0
  Rest = Headed (symbol_at (codes ";")) Middle

  abbrev RestDeep : List Token → Token → Type 0
  RestDeep = HeadedDeep (symbol_at (codes ";")) MiddleDeep

  exact_rest : Exact {A = ℕ × (Option Expr × (ℕ × (Option Stmt × ℕ)))} (read_both (read_one (symbol_at (codes ";"))) (read_both (read_maybe_expression expression) (read_both (read_one (symbol_at (codes ";")))
      (read_both (read_maybe_simple expression) (read_one (symbol_at (codes ")"))))))) Rest RestDeep never
  exact_rest = exact_headed (symbol_at (codes ";")) exact_middle (some_mark (codes ";")) 0 refl (viable_both none_expression some_last)

  begun_rest : Begun {A = ℕ × (Option Expr × (ℕ × (Option Stmt × ℕ)))} (read_both (read_one (symbol_at (codes ";"))) (read_both (read_maybe_expression expression) (read_both (read_one (symbol_at (codes ";")))
      (read_both (read_maybe_simple expression) (read_one (symbol_at (codes ")"))))))) (has (symbol_at (codes ";")))
  begun_rest = begun_headed (symbol_at (codes ";")) exact_middle

  some_rest : Viable Rest []
  some_rest = viable_headed (symbol_at (codes ";")) (some_mark (codes ";")) 0 refl (viable_both none_expression some_last)

  abbrev pub ForPartsText : List Token → ForParts → Type 0
  ForPartsText = Mapped for_parts (Both First Rest)

  abbrev pub ForPartsDeep : List Token → Token → Type 0
  ForPartsDeep = ThenDeep (EitherDeep DeclarationX (EitherDeep SimpleX Nowhere)) First (λ s. RestDeep)

  exact_for_parts : Exact (read_for_parts expression) ForPartsText ForPartsDeep never
  unfolding read_for_parts
  exact_for_parts = exact_mapped for_parts (pairs.exact_both exact_for_first exact_rest begun_rest mark_ends_first)

  some_for_parts : Viable ForPartsText []
  some_for_parts = let v : Viable (Both First Rest) [] = viable_both (record { more = []; value = None; member = other_way (other_way (record { nothing = refl; same = refl })) }) some_rest in
      record { more = v.more; value = for_parts v.value; member = record { part = v.value; made = refl; whole = v.member } }

  abbrev pub ForHead : List Token → ℕ × ForParts → Type 0
  ForHead = Headed (keyword_at (codes "for")) (Behind (codes "(") ForPartsText)

  abbrev pub ForHeadDeep : List Token → Token → Type 0
  ForHeadDeep = HeadedDeep (keyword_at (codes "for")) (BracketedDeep (codes "(") ForPartsDeep)

  behind_parts : Exact (read_mapped latter (read_both (read_one (symbol_at (codes "("))) (read_for_parts expression))) (Behind (codes "(") ForPartsText) (BracketedDeep (codes "(") ForPartsDeep) never
  behind_parts = exact_behind (codes "(") exact_for_parts some_for_parts refl

  some_behind : Viable (Behind (codes "(") ForPartsText) []
  some_behind = let v = some_for_parts in record { more = some_mark (codes "(") ∷ v.more; value = v.value; member = record { mark = some_mark (codes "("); back = v.more; split = refl; marks = refl; behind = v.member } }

  pub exact_for_head : Exact {A = ℕ × ForParts} (read_for_head expression) ForHead ForHeadDeep never
  unfolding read_for_head
  exact_for_head = exact_headed (keyword_at (codes "for")) behind_parts (some_keyword (codes "for")) 0 refl some_behind

  pub begun_for_head : Begun {A = ℕ × ForParts} (read_for_head expression) (has (keyword_at (codes "for")))
  unfolding read_for_head
  begun_for_head = begun_headed (keyword_at (codes "for")) behind_parts

  -- what a `printf` prints
  comma_ends : (t : Token) → comma t ≡ true → goes_on t ≡ false
  unfolding operator_of
  comma_ends t e = on_symbol goes_on (codes ",") false (λ line. refl) t (has_symbol (codes ",") t e)

  close_ends_list : (t : Token) → has (symbol_at (codes ")")) t ≡ true → one_of comma goes_on t ≡ false
  unfolding operator_of
  close_ends_list t e = on_symbol (one_of comma goes_on) (codes ")") false (λ line. refl) t (has_symbol (codes ")") t e)

  abbrev pub Closing : List Token → ℕ × ℕ → Type 0
  Closing = Headed (symbol_at (codes ")")) (One (symbol_at (codes ";")))

  closing : Exact {A = ℕ × ℕ} (read_both (read_one (symbol_at (codes ")"))) (read_one (symbol_at (codes ";")))) Closing (HeadedDeep (symbol_at (codes ")")) Nowhere) never
  closing = exact_headed (symbol_at (codes ")")) (exact_one (symbol_at (codes ";")) (some_mark (codes ";")) 0 refl never) (some_mark (codes ")")) 0 refl
      (record { more = some_mark (codes ";") ∷ []; value = 0; member = record { token = some_mark (codes ";"); only = refl; passes = refl } })

  begun_closing : Begun {A = ℕ × ℕ} (read_both (read_one (symbol_at (codes ")"))) (read_one (symbol_at (codes ";")))) (has (symbol_at (codes ")")))
  begun_closing = begun_headed (symbol_at (codes ")")) (exact_one (symbol_at (codes ";")) (some_mark (codes ";")) 0 refl never)

  abbrev pub Printed : List Token → List Expr → Type 0
  Printed = Mapped former (Both (Follow IsWhole) Closing)

  abbrev pub PrintedDeep : List Token → Token → Type 0
  PrintedDeep = ThenDeep (FollowDeep IsWhole X) (Follow IsWhole) (λ values. HeadedDeep (symbol_at (codes ")")) Nowhere)

  pub exact_printed : Exact (read_printed expression) Printed PrintedDeep never
  unfolding read_printed
  exact_printed = exact_mapped former (pairs.exact_both (exact_follow part first comma_ends) closing begun_closing close_ends_list)

  pub some_printed : Viable Printed []
  some_printed = record {
    more = some_mark (codes ")") ∷ some_mark (codes ";") ∷ [];
    value = [];
    member = record {
      part = ([], (0, 0));
      made = refl;
      whole = record {
        front = [];
        back = some_mark (codes ")") ∷ some_mark (codes ";") ∷ [];
        split = refl;
        before = none refl;
        behind = record { token = some_mark (codes ")"); back = some_mark (codes ";") ∷ []; split = refl; passes = refl; behind = record { token = some_mark (codes ";"); only = refl; passes = refl } };
      };
    };
  }
