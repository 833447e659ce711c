-- Readers of a part and then another, of a part behind a token and of a part between two tokens are exact, if those of the parts are.
use Rattle.std.proofs.Common.{arith, ◌≡◌, ◌+◌, ℕ, Bool, true, false, ◌||◌, if◌then◌else◌, List, [], ◌∷◌, ◌++◌, length, refl, sym, ap, ◌∙◌, subst, Option, Some, None, is_some, Result, Ok, Err}
use Rattle.std.proofs.lemmas.List.{length-append}
use Rattle.std.specs.Str.{bytes_eq}
use Rattle.oss_syntax.specs.declared.token.Token.{Token}
use Rattle.oss_syntax.specs.declared.token.TokenKind.TheVariants as kinds
use Rattle.oss_grammar.specs.Fronts.{Viable}
use Rattle.oss_grammar.specs.Grammar.{One, Both, Mapped, Either}
use Rattle.oss_grammar.specs.Grammar.Either.{one_way, other_way}
use Rattle.oss_grammar.specs.OneToken.{is_symbol, IsSymbol}
use Rattle.oss_grammar.specs.Reading.{Stop, Reader, begins, has, one_of, never, go_on, read_one, read_then, read_mapped, read_both, read_either}
use Rattle.oss_grammar.specs.Reading.Stop.{Syntax}
use Rattle.oss_grammar.proofs.Parts.{Stopped, Exact, Begun, exact_as, exact_same, member_begins, deep_begins, stopped}
use Rattle.oss_grammar.proofs.PartLemmas.{Nowhere, nowhere, exact_one, exact_mapped, begun_mapped, Then, ThenDeep, exact_then, EitherDeep, exact_either}
use Rattle.oss_grammar.proofs.StepLemmas.{none_goes}
use Rattle.oss_expressions.specs.ExpressionReading.{middle, latter}
use Rattle.oss_expressions.specs.TokenValues.{symbol_at}
use Rattle.oss_expressions.proofs.TokenLemmas.{begins_never, symbol_token, symbol_value}

-- a limit is passed in a part, or in another behind it
abbrev pub BothDeep : {A : Type 0} → (List Token → Token → Type 0) → (List Token → A → Type 0) → (List Token → Token → Type 0) → List Token → Token → Type 0
BothDeep D U E = ThenDeep D U (λ a. E)

module _ {A B : Type 0} {f : List Token → Result (A × List Token) Stop} {g : List Token → Result (B × List Token) Stop} {U : List Token → A → Type 0} {V : List Token → B → Type 0}
    {D E : List Token → Token → Type 0} {first second : Token → Bool} (left : Exact f U D first) (right : Exact g V E second)
    (apart : (ys : List Token) (b : B) (rest : List Token) → V ys b → begins second rest ≡ false → begins first (ys ++ rest) ≡ false)
    (apart_deep : (ys : List Token) (t : Token) (rest : List Token) → E ys t → begins first (ys ++ (t ∷ rest)) ≡ false) (some : Viable V []) where
  both_into : (xs : List Token) (p : A × B) → Then U (λ a. Mapped (λ b. (a, b)) V) xs p → Both U V xs p
  both_into xs p w = record {
    front = w.front;
    back = w.back;
    split = w.split;
    before = subst (λ a. U w.front a) (ap (λ q. q.0) w.behind.made) w.before;
    behind = subst (λ b. V w.back b) (ap (λ q. q.1) w.behind.made) w.behind.whole;
  }

  both_back : (xs : List Token) (p : A × B) → Both U V xs p → Then U (λ a. Mapped (λ b. (a, b)) V) xs p
  both_back xs p w = record { front = w.front; back = w.back; value = p.0; split = w.split; before = w.before; behind = record { part = p.1; made = refl; whole = w.behind } }

  both_then : Exact {A = A × B} (read_then f (λ a. read_mapped (λ b. (a, b)) g)) (Then U (λ a. Mapped (λ b. (a, b)) V)) (ThenDeep D U (λ a. E)) second
  both_then = exact_then left (λ a. exact_mapped (λ b. (a, b)) right) (λ a ys p rest w free. apart ys w.part rest w.whole free) (λ a. apart_deep)
      (λ a. record { more = some.more; value = (a, some.value); member = record { part = some.value; made = refl; whole = some.member } })

  pub exact_both : Exact {A = A × B} (read_both f g) (Both U V) (BothDeep D U E) second
  exact_both = exact_as both_into both_back (λ xs t d. d) (λ xs t d. d) both_then

-- a part behind a token
pub record Headed {A B : Type 0} (test : Token → Option A) (V : List Token → B → Type 0) (xs : List Token) (p : A × B) : Type 0 where
  pub token : Token
  pub back : List Token
  pub split : xs ≡ token ∷ back
  pub passes : test token ≡ Some p.0
  pub behind : V back p.1

-- a limit is passed in a part behind a token
pub record HeadedDeep {A : Type 0} (test : Token → Option A) (E : List Token → Token → Type 0) (xs : List Token) (t : Token) : Type 0 where
  pub token : Token
  pub back : List Token
  pub value : A
  pub split : xs ≡ token ∷ back
  pub passes : test token ≡ Some value
  pub deep : E back t

module _ {A B : Type 0} (test : Token → Option A) {g : List Token → Result (B × List Token) Stop} {V : List Token → B → Type 0} {E : List Token → Token → Type 0} {goes : Token → Bool} (right : Exact g V E goes) where
  headed_into : (xs : List Token) (p : A × B) → Both (One test) V xs p → Headed test V xs p
  headed_into xs p w = record { token = w.before.token; back = w.back; split = w.split ∙ ap (λ ys. ys ++ w.back) w.before.only; passes = w.before.passes; behind = w.behind }

  headed_back : (xs : List Token) (p : A × B) → Headed test V xs p → Both (One test) V xs p
  headed_back xs p w = record { front = w.token ∷ []; back = w.back; split = w.split; before = record { token = w.token; only = refl; passes = w.passes }; behind = w.behind }

  headed_deeper : (xs : List Token) (t : Token) → BothDeep Nowhere (One test) E xs t → HeadedDeep test E xs t
  headed_deeper xs t (ThenDeep.in_first d) = nowhere xs t d
  headed_deeper xs t (ThenDeep.in_second front back a e w d) = record { token = w.token; back = back; value = a; split = e ∙ ap (λ ys. ys ++ back) w.only; passes = w.passes; deep = d }

  headed_upper : (xs : List Token) (t : Token) → HeadedDeep test E xs t → BothDeep Nowhere (One test) E xs t
  headed_upper xs t w = ThenDeep.in_second (w.token ∷ []) w.back w.value w.split (record { token = w.token; only = refl; passes = w.passes }) w.deep

  pub exact_headed : (some : Token) (value : A) → test some ≡ Some value → Viable V [] → Exact {A = A × B} (read_both (read_one test) g) (Headed test V) (HeadedDeep test E) goes
  exact_headed some value passes more = exact_as headed_into headed_back headed_deeper headed_upper
      (exact_both (exact_one test some value passes never) right (λ ys b rest w free. begins_never (ys ++ rest)) (λ ys t rest d. begins_never (ys ++ (t ∷ rest))) more)

  not_longer : (t : Token) (rest : List Token) → Stopped g V rest (t ∷ rest) → ⊥
  not_longer t rest w = let size : length rest ≡ length w.front + length (t ∷ rest) = ap length w.split ∙ length-append w.front (t ∷ rest) in absurd (omega arith)

  goes_behind : (t : Token) (rest : List Token) (r : Result (B × List Token) Stop) (a : A) → g rest ≡ r → go_on {B = A × B} r (λ b left. Ok ((a, b), left)) ≡ Err (Syntax (t ∷ rest)) → ⊥
  goes_behind t rest (Ok p) a e told = absurd (cc)
  goes_behind t rest (Err stop) a e told = not_longer t rest (stopped right rest (t ∷ rest) (e ∙ cc))

  headed_accepts : (t : Token) (rest : List Token) (o : Option A) → test t ≡ o → is_some o ≡ true → read_both (read_one test) g (t ∷ rest) ≡ Err (Syntax (t ∷ rest)) → ⊥
  headed_accepts t rest None e s told = absurd (cc)
  headed_accepts t rest (Some a) e s told =
      let one : read_one test (t ∷ rest) ≡ Ok (a, rest) = rw e refl in
      goes_behind t rest (g rest) a refl (sym (ap (λ o. go_on {B = A × B} o (λ a rest. go_on {B = A × B} (g rest) (λ b left. Ok ((a, b), left)))) one) ∙ told)

  headed_refuses_by : (t : Token) (rest : List Token) (o : Option A) → test t ≡ o → is_some o ≡ false → read_both (read_one test) g (t ∷ rest) ≡ Err (Syntax (t ∷ rest))
  headed_refuses_by t rest None e s = rw e refl
  headed_refuses_by t rest (Some a) e s = absurd (cc)

  headed_refuses : (ts : List Token) → begins (has test) ts ≡ false → read_both (read_one test) g ts ≡ Err (Syntax ts)
  headed_refuses [] s = refl
  headed_refuses (t ∷ rest) s = headed_refuses_by t rest (test t) refl s

  pub begun_headed : Begun {A = A × B} (read_both (read_one test) g) (has test)
  begun_headed = record { accepts = λ t rest s told. headed_accepts t rest (test t) refl s told; refuses = headed_refuses }

-- a part in front of a token
pub record Trailed {A B : Type 0} (test : Token → Option B) (U : List Token → A → Type 0) (xs : List Token) (p : A × B) : Type 0 where
  pub inner : List Token
  pub closed : Token
  pub split : xs ≡ inner ++ (closed ∷ [])
  pub passes : test closed ≡ Some p.1
  pub inside : U inner p.0

module _ {A B : Type 0} (test : Token → Option B) {f : List Token → Result (A × List Token) Stop} {U : List Token → A → Type 0} {D : List Token → Token → Type 0} {goes : Token → Bool} (left : Exact f U D goes)
    (apart : (t : Token) → has test t ≡ true → goes t ≡ false) where
  trailed_into : (xs : List Token) (p : A × B) → Both U (One test) xs p → Trailed test U xs p
  trailed_into xs p w = record { inner = w.front; closed = w.behind.token; split = w.split ∙ ap (λ ys. w.front ++ ys) w.behind.only; passes = w.behind.passes; inside = w.before }

  trailed_back : (xs : List Token) (p : A × B) → Trailed test U xs p → Both U (One test) xs p
  trailed_back xs p w = record { front = w.inner; back = w.closed ∷ []; split = w.split; before = w.inside; behind = record { token = w.closed; only = refl; passes = w.passes } }

  trailed_deeper : (xs : List Token) (t : Token) → BothDeep D U Nowhere xs t → D xs t
  trailed_deeper xs t (ThenDeep.in_first d) = d
  trailed_deeper xs t (ThenDeep.in_second front back a e w d) = nowhere back t d

  one_apart : (ys : List Token) (b : B) (rest : List Token) → One test ys b → begins goes (ys ++ rest) ≡ false
  one_apart ys b rest w = ap (λ zs. begins goes (zs ++ rest)) w.only ∙ apart w.token (ap is_some w.passes)

  pub exact_trailed : (some : Token) (value : B) → test some ≡ Some value → Exact {A = A × B} (read_both f (read_one test)) (Trailed test U) D never
  exact_trailed some value passes = exact_as trailed_into trailed_back trailed_deeper (λ xs t d. ThenDeep.in_first d)
      (exact_both left (exact_one test some value passes never) (λ ys b rest w free. one_apart ys b rest w) (λ ys t rest d. nowhere ys t d)
      (record { more = some ∷ []; value = value; member = record { token = some; only = refl; passes = passes } }))

-- a part between two tokens
pub record Enclosed {A B C : Type 0} (test : Token → Option A) (last : Token → Option C) (U : List Token → B → Type 0) (xs : List Token) (p : A × (B × C)) : Type 0 where
  pub opened : Token
  pub inner : List Token
  pub closed : Token
  pub split : xs ≡ opened ∷ (inner ++ (closed ∷ []))
  pub opens : test opened ≡ Some p.0
  pub closes : last closed ≡ Some p.1.1
  pub inside : U inner p.1.0

module _ {A B C : Type 0} (test : Token → Option A) (last : Token → Option C) {f : List Token → Result (B × List Token) Stop} {U : List Token → B → Type 0} {D : List Token → Token → Type 0} {goes : Token → Bool} (part : Exact f U D goes)
    (viable : Viable U []) (apart : (t : Token) → has last t ≡ true → goes t ≡ false) (other : Token) (end : C) (closes : last other ≡ Some end) where
  enclosed_into : (xs : List Token) (p : A × (B × C)) → Headed test (Trailed last U) xs p → Enclosed test last U xs p
  enclosed_into xs p w = record {
    opened = w.token;
    inner = w.behind.inner;
    closed = w.behind.closed;
    split = w.split ∙ ap (λ ys. w.token ∷ ys) w.behind.split;
    opens = w.passes;
    closes = w.behind.passes;
    inside = w.behind.inside;
  }

  enclosed_back : (xs : List Token) (p : A × (B × C)) → Enclosed test last U xs p → Headed test (Trailed last U) xs p
  enclosed_back xs p w = record {
    token = w.opened;
    back = w.inner ++ (w.closed ∷ []);
    split = w.split;
    passes = w.opens;
    behind = record { inner = w.inner; closed = w.closed; split = refl; passes = w.closes; inside = w.inside };
  }

  trailed : Exact {A = B × C} (read_both f (read_one last)) (Trailed last U) D never
  trailed = exact_trailed last part apart other end closes

  pub exact_enclosed : (some : Token) (value : A) → test some ≡ Some value → Exact {A = A × (B × C)} (read_both (read_one test) (read_both f (read_one last))) (Enclosed test last U) (HeadedDeep test D) never
  exact_enclosed some value passes = exact_as enclosed_into enclosed_back (λ xs t d. d) (λ xs t d. d)
      (exact_headed test trailed some value passes
      (record { more = viable.more ++ (other ∷ []); value = (viable.value, end); member = record { inner = viable.more; closed = other; split = refl; passes = closes; inside = viable.member } }))

  pub begun_enclosed : Begun {A = A × (B × C)} (read_both (read_one test) (read_both f (read_one last))) (has test)
  begun_enclosed = begun_headed test trailed

-- the line of a symbol is that of its token
same_line : (b : Bool) (line n : ℕ) → (if b then Some line else None) ≡ Some n → line ≡ n
same_line true line n e = cc
same_line false line n e = absurd (cc)

pub symbol_line : (s : List ℕ) (t : Token) (n : ℕ) → symbol_at s t ≡ Some n → t.line ≡ n
symbol_line s t n e = same_line (is_symbol s t.what) t.line n e

pub symbol_passes : (s : List ℕ) → bytes_eq s s ≡ true → symbol_at s (record { what = kinds.Symbol s; line = 0 }) ≡ Some 0
symbol_passes s e = rw e refl

-- a part between two symbols
pub record Bracketed {B : Type 0} (s e : List ℕ) (U : List Token → B → Type 0) (xs : List Token) (b : B) : Type 0 where
  pub opened : Token
  pub inner : List Token
  pub closed : Token
  pub split : xs ≡ opened ∷ (inner ++ (closed ∷ []))
  pub opens : IsSymbol s opened
  pub closes : IsSymbol e closed
  pub inside : U inner b

pub record BracketedDeep (s : List ℕ) (E : List Token → Token → Type 0) (xs : List Token) (t : Token) : Type 0 where
  pub opened : Token
  pub inner : List Token
  pub split : xs ≡ opened ∷ inner
  pub opens : IsSymbol s opened
  pub deep : E inner t

abbrev pub read_bracketed : {B : Type 0} → List ℕ → List ℕ → Reader B → Reader B
read_bracketed s e f = read_mapped middle (read_both (read_one (symbol_at s)) (read_both f (read_one (symbol_at e))))

module _ {B : Type 0} (s e : List ℕ) {f : List Token → Result (B × List Token) Stop} {U : List Token → B → Type 0} {D : List Token → Token → Type 0} {goes : Token → Bool} (part : Exact f U D goes)
    (viable : Viable U []) (apart : (t : Token) → has (symbol_at e) t ≡ true → goes t ≡ false) (same_s : bytes_eq s s ≡ true) (same_e : bytes_eq e e ≡ true) where
  bracketed_into : (xs : List Token) (b : B) → Mapped middle (Enclosed (symbol_at s) (symbol_at e) U) xs b → Bracketed s e U xs b
  bracketed_into xs b w = record {
    opened = w.whole.opened;
    inner = w.whole.inner;
    closed = w.whole.closed;
    split = w.whole.split;
    opens = symbol_token s w.whole.opened w.part.0 w.whole.opens;
    closes = symbol_token e w.whole.closed w.part.1.1 w.whole.closes;
    inside = subst (λ b. U w.whole.inner b) w.made w.whole.inside;
  }

  bracketed_back : (xs : List Token) (b : B) → Bracketed s e U xs b → Mapped middle (Enclosed (symbol_at s) (symbol_at e) U) xs b
  bracketed_back xs b w = record {
    part = (w.opened.line, (b, w.closed.line));
    made = refl;
    whole = record { opened = w.opened; inner = w.inner; closed = w.closed; split = w.split; opens = symbol_value s w.opened w.opens; closes = symbol_value e w.closed w.closes; inside = w.inside };
  }

  bracketed_deeper : (xs : List Token) (t : Token) → HeadedDeep (symbol_at s) D xs t → BracketedDeep s D xs t
  bracketed_deeper xs t w = record { opened = w.token; inner = w.back; split = w.split; opens = symbol_token s w.token w.value w.passes; deep = w.deep }

  bracketed_upper : (xs : List Token) (t : Token) → BracketedDeep s D xs t → HeadedDeep (symbol_at s) D xs t
  bracketed_upper xs t w = record { token = w.opened; back = w.inner; value = w.opened.line; split = w.split; passes = symbol_value s w.opened w.opens; deep = w.deep }

  pub exact_bracketed : Exact (read_bracketed s e f) (Bracketed s e U) (BracketedDeep s D) never
  exact_bracketed = exact_as bracketed_into bracketed_back bracketed_deeper bracketed_upper
      (exact_mapped middle (exact_enclosed (symbol_at s) (symbol_at e) part viable apart (record { what = kinds.Symbol e; line = 0 }) 0 (symbol_passes e same_e) (record { what = kinds.Symbol s; line = 0 }) 0 (symbol_passes s same_s)))

  pub begun_bracketed : Begun (read_bracketed s e f) (has (symbol_at s))
  begun_bracketed = begun_mapped middle (begun_enclosed (symbol_at s) (symbol_at e) part viable apart (record { what = kinds.Symbol e; line = 0 }) 0 (symbol_passes e same_e))

pub bracketed_viable : {B : Type 0} (s e : List ℕ) {U : List Token → B → Type 0} → bytes_eq s s ≡ true → bytes_eq e e ≡ true → Viable U [] → Viable (Bracketed s e U) []
bracketed_viable s e same_s same_e v = record {
  more = record { what = kinds.Symbol s; line = 0 } ∷ (v.more ++ (record { what = kinds.Symbol e; line = 0 } ∷ []));
  value = v.value;
  member = record { opened = record { what = kinds.Symbol s; line = 0 }; inner = v.more; closed = record { what = kinds.Symbol e; line = 0 }; split = refl; opens = same_s; closes = same_e; inside = v.member };
}

-- a part behind a symbol
pub record Behind {B : Type 0} (s : List ℕ) (U : List Token → B → Type 0) (xs : List Token) (b : B) : Type 0 where
  pub mark : Token
  pub back : List Token
  pub split : xs ≡ mark ∷ back
  pub marks : IsSymbol s mark
  pub behind : U back b

abbrev pub read_behind : {B : Type 0} → List ℕ → Reader B → Reader B
read_behind s f = read_mapped latter (read_both (read_one (symbol_at s)) f)

module _ {B : Type 0} (s : List ℕ) {f : List Token → Result (B × List Token) Stop} {U : List Token → B → Type 0} {D : List Token → Token → Type 0} {goes : Token → Bool} (part : Exact f U D goes)
    (viable : Viable U []) (same_s : bytes_eq s s ≡ true) where
  behind_into : (xs : List Token) (b : B) → Mapped latter (Headed (symbol_at s) U) xs b → Behind s U xs b
  behind_into xs b w = record {
    mark = w.whole.token;
    back = w.whole.back;
    split = w.whole.split;
    marks = symbol_token s w.whole.token w.part.0 w.whole.passes;
    behind = subst (λ b. U w.whole.back b) w.made w.whole.behind;
  }

  behind_back : (xs : List Token) (b : B) → Behind s U xs b → Mapped latter (Headed (symbol_at s) U) xs b
  behind_back xs b w = record {
    part = (w.mark.line, b);
    made = refl;
    whole = record { token = w.mark; back = w.back; split = w.split; passes = symbol_value s w.mark w.marks; behind = w.behind };
  }

  behind_deeper : (xs : List Token) (t : Token) → HeadedDeep (symbol_at s) D xs t → BracketedDeep s D xs t
  behind_deeper xs t w = record { opened = w.token; inner = w.back; split = w.split; opens = symbol_token s w.token w.value w.passes; deep = w.deep }

  behind_upper : (xs : List Token) (t : Token) → BracketedDeep s D xs t → HeadedDeep (symbol_at s) D xs t
  behind_upper xs t w = record { token = w.opened; back = w.inner; value = w.opened.line; split = w.split; passes = symbol_value s w.opened w.opens; deep = w.deep }

  pub exact_behind : Exact (read_behind s f) (Behind s U) (BracketedDeep s D) goes
  exact_behind = exact_as behind_into behind_back behind_deeper behind_upper
      (exact_mapped latter (exact_headed (symbol_at s) part (record { what = kinds.Symbol s; line = 0 }) 0 (symbol_passes s same_s) viable))

  pub begun_behind : Begun (read_behind s f) (has (symbol_at s))
  begun_behind = begun_mapped latter (begun_headed (symbol_at s) part)

-- one of two that begin differently
pub exact_or : {A : Type 0} (starts others : Token → Bool) {f g : Reader A} {U V : List Token → A → Type 0} {D E : List Token → Token → Type 0} {goes : Token → Bool}
    → Exact f U D goes → Begun f starts → Exact g V E goes → Begun g others → ((t : Token) → others t ≡ true → starts t ≡ false) → Exact (read_either starts f g) (Either U V) (EitherDeep D E) goes
exact_or starts others left begins_left right begins_right apart = exact_either starts left begins_left right
    (λ ys b rest w free. none_goes others starts apart (ys ++ rest) (member_begins right begins_right ys b rest w))
    (λ ys t rest d. none_goes others starts apart (ys ++ (t ∷ rest)) (deep_begins right begins_right ys t rest d))

-- what passes one of two tests fails a third, if what passes either does
pub or_apart : (first second other : Token → Bool) → ((t : Token) → first t ≡ true → other t ≡ false) → ((t : Token) → second t ≡ true → other t ≡ false) → (t : Token) → one_of first second t ≡ true → other t ≡ false
or_apart first second other one two t e = on (first t) refl where
  on : (b : Bool) → first t ≡ b → other t ≡ false
  on true is = one t is
  on false is = two t (ap (λ b. b || second t) (sym is) ∙ e)

-- what takes no text at all
pub record Failing {A : Type 0} (f : List Token → Result (A × List Token) Stop) (U : List Token → A → Type 0) (D : List Token → Token → Type 0) : Type 0 where
  pub fails : (ts : List Token) → f ts ≡ Err (Syntax ts)
  pub no_member : (xs : List Token) (a : A) → U xs a → ⊥
  pub no_place : (xs : List Token) (t : Token) → D xs t → ⊥

pub data Perhaps {A : Type 0} (f : List Token → Result (A × List Token) Stop) (U : List Token → A → Type 0) (D : List Token → Token → Type 0) (goes : Token → Bool) : Type 0 where
  exactly : Exact f U D goes → Perhaps f U D goes
  fails_at_once : Failing f U D → Perhaps f U D goes

module _ {A : Type 0} (starts : Token → Bool) {f : List Token → Result (A × List Token) Stop} (g : List Token → Result (A × List Token) Stop) (begins_left : Begun f starts) where
  only_left_by : (ts : List Token) (b : Bool) → begins starts ts ≡ b → g ts ≡ Err (Syntax ts) → f ts ≡ read_either starts f g ts
  only_left_by ts true e gone = rw e refl
  only_left_by ts false e gone = let same : read_either starts f g ts ≡ g ts = rw e refl in begins_left.refuses ts e ∙ sym (same ∙ gone)

  -- where the second takes no text, the choice is the first; where the first takes none, it is the second
  only_left : ((ts : List Token) → g ts ≡ Err (Syntax ts)) → f ≡ read_either starts f g
  only_left fails = λ i ts. only_left_by ts (begins starts ts) refl (fails ts) i

  only_right_by : (ts : List Token) (b : Bool) → begins starts ts ≡ b → f ts ≡ Err (Syntax ts) → g ts ≡ read_either starts f g ts
  only_right_by [] b e gone = refl
  only_right_by (t ∷ ts) true e gone = absurd (begins_left.accepts t ts e gone)
  only_right_by (t ∷ ts) false e gone = rw e refl

  only_right : ((ts : List Token) → f ts ≡ Err (Syntax ts)) → g ≡ read_either starts f g
  only_right fails = λ i ts. only_right_by ts (begins starts ts) refl (fails ts) i

  neither : {U V : List Token → A → Type 0} {D E : List Token → Token → Type 0} → Failing f U D → Failing g V E → Failing (read_either starts f g) (Either U V) (EitherDeep D E)
  neither {U} {V} {D} {E} w u = record { fails = λ ts. ap (λ h. h ts) (sym (only_right w.fails)) ∙ u.fails ts; no_member = no_member; no_place = no_place } where
    no_member : (xs : List Token) (a : A) → Either U V xs a → ⊥
    no_member xs a (one_way m) = w.no_member xs a m
    no_member xs a (other_way m) = u.no_member xs a m

    no_place : (xs : List Token) (t : Token) → EitherDeep D E xs t → ⊥
    no_place xs t (EitherDeep.one_deep d) = w.no_place xs t d
    no_place xs t (EitherDeep.other_deep d) = u.no_place xs t d

module _ {A : Type 0} (starts others : Token → Bool) {f g : List Token → Result (A × List Token) Stop} {U V : List Token → A → Type 0} {D E : List Token → Token → Type 0} {goes : Token → Bool}
    (begins_left : Begun f starts) (begins_right : Begun g others) (apart : (t : Token) → others t ≡ true → starts t ≡ false) where
  pub exact_or_perhaps : Exact f U D goes → Perhaps g V E goes → Exact (read_either starts f g) (Either U V) (EitherDeep D E) goes
  exact_or_perhaps left (exactly right) = exact_or starts others left begins_left right begins_right apart
  exact_or_perhaps left (fails_at_once w) = exact_same (only_left starts g begins_left w.fails) (exact_as (λ xs a m. one_way m) back (λ xs t d. EitherDeep.one_deep d) upper left) where
    back : (xs : List Token) (a : A) → Either U V xs a → U xs a
    back xs a (one_way m) = m
    back xs a (other_way m) = absurd (w.no_member xs a m)

    upper : (xs : List Token) (t : Token) → EitherDeep D E xs t → D xs t
    upper xs t (EitherDeep.one_deep d) = d
    upper xs t (EitherDeep.other_deep d) = absurd (w.no_place xs t d)

  perhaps_right : Failing f U D → Exact g V E goes → Exact (read_either starts f g) (Either U V) (EitherDeep D E) goes
  perhaps_right w right = exact_same (only_right starts g begins_left w.fails) (exact_as (λ xs a m. other_way m) back (λ xs t d. EitherDeep.other_deep d) upper right) where
    back : (xs : List Token) (a : A) → Either U V xs a → V xs a
    back xs a (one_way m) = absurd (w.no_member xs a m)
    back xs a (other_way m) = m

    upper : (xs : List Token) (t : Token) → EitherDeep D E xs t → E xs t
    upper xs t (EitherDeep.one_deep d) = absurd (w.no_place xs t d)
    upper xs t (EitherDeep.other_deep d) = d

  pub perhaps_either : Perhaps f U D goes → Perhaps g V E goes → Perhaps (read_either starts f g) (Either U V) (EitherDeep D E) goes
  perhaps_either (exactly left) right = exactly (exact_or_perhaps left right)
  perhaps_either (fails_at_once w) (exactly right) = exactly (perhaps_right w right)
  perhaps_either (fails_at_once w) (fails_at_once u) = fails_at_once (neither starts g begins_left w u)
