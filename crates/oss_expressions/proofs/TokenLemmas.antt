-- What is so of single tokens: a token that is one thing is no other.
use Rattle.std.proofs.Common.{◌≡◌, ℕ, Bool, true, false, ◌||◌, if◌then◌else◌, List, [], ◌∷◌, refl, sym, ap, subst, Some, None, is_some, Result}
use Rattle.std.specs.Prelude.{codes}
use Rattle.std.specs.Str.{bytes_eq}
use Rattle.std.proofs.lemmas.Slice.Eq.{bytes_eq-Decides}
use Rattle.oss_syntax.specs.declared.token.Token.{Token}
use Rattle.oss_syntax.specs.declared.token.TokenKind.{TokenKind}
use Rattle.oss_syntax.specs.declared.token.TokenKind.TheVariants as kinds
use Rattle.oss_grammar.specs.Expressions.{operator_of}
use Rattle.oss_grammar.specs.OneToken.{is_symbol, is_keyword, is_word}
use Rattle.oss_grammar.specs.Grammar.{One}
use Rattle.oss_grammar.specs.Reading.{Stop, begins, has, never, read_one}
use Rattle.oss_grammar.proofs.Parts.{Exact, exact_before}
use Rattle.oss_grammar.proofs.PartLemmas.{Nowhere, exact_one}
use Rattle.oss_expressions.specs.TokenValues.{symbol_at, word_at, keyword_at}

-- with these tokens an expression may go on: with the bracket of a call or of an index, and with a binary operator
abbrev pub goes_on : Token → Bool
goes_on t = is_symbol (codes "(") t.what || (is_symbol (codes "[") t.what || is_some (operator_of t.what))

bytes_are : (w s : List ℕ) → bytes_eq w s ≡ true → w ≡ s
bytes_are w s e = (bytes_eq-Decides w s).0 e

pub symbol_what : (s : List ℕ) (k : TokenKind) → is_symbol s k ≡ true → k ≡ kinds.Symbol s
symbol_what s (kinds.Symbol w) e = ap kinds.Symbol (bytes_are w s e)
symbol_what s (kinds.Name w) e = absurd (cc)
symbol_what s (kinds.Keyword w) e = absurd (cc)
symbol_what s (kinds.Number v u) e = absurd (cc)
symbol_what s (kinds.Text w) e = absurd (cc)
symbol_what s kinds.PragmaOss e = absurd (cc)
symbol_what s kinds.PragmaEnd e = absurd (cc)
symbol_what s kinds.Directive e = absurd (cc)

pub word_what : (s : List ℕ) (k : TokenKind) → is_word s k ≡ true → k ≡ kinds.Name s
word_what s (kinds.Name w) e = ap kinds.Name (bytes_are w s e)
word_what s (kinds.Symbol w) e = absurd (cc)
word_what s (kinds.Keyword w) e = absurd (cc)
word_what s (kinds.Number v u) e = absurd (cc)
word_what s (kinds.Text w) e = absurd (cc)
word_what s kinds.PragmaOss e = absurd (cc)
word_what s kinds.PragmaEnd e = absurd (cc)
word_what s kinds.Directive e = absurd (cc)

pub keyword_what : (s : List ℕ) (k : TokenKind) → is_keyword s k ≡ true → k ≡ kinds.Keyword s
keyword_what s (kinds.Keyword w) e = ap kinds.Keyword (bytes_are w s e)
keyword_what s (kinds.Name w) e = absurd (cc)
keyword_what s (kinds.Symbol w) e = absurd (cc)
keyword_what s (kinds.Number v u) e = absurd (cc)
keyword_what s (kinds.Text w) e = absurd (cc)
keyword_what s kinds.PragmaOss e = absurd (cc)
keyword_what s kinds.PragmaEnd e = absurd (cc)
keyword_what s kinds.Directive e = absurd (cc)

-- a test of a token that is this symbol, word or keyword is computed on it
pub on_symbol : (test : Token → Bool) (s : List ℕ) (b : Bool) → ((line : ℕ) → test (record { what = kinds.Symbol s; line = line }) ≡ b) → (t : Token) → is_symbol s t.what ≡ true → test t ≡ b
on_symbol test s b told t e = subst (λ k. test (record { what = k; line = t.line }) ≡ b) (sym (symbol_what s t.what e)) (told t.line)

pub on_word : (test : Token → Bool) (s : List ℕ) (b : Bool) → ((line : ℕ) → test (record { what = kinds.Name s; line = line }) ≡ b) → (t : Token) → is_word s t.what ≡ true → test t ≡ b
on_word test s b told t e = subst (λ k. test (record { what = k; line = t.line }) ≡ b) (sym (word_what s t.what e)) (told t.line)

pub on_keyword : (test : Token → Bool) (s : List ℕ) (b : Bool) → ((line : ℕ) → test (record { what = kinds.Keyword s; line = line }) ≡ b) → (t : Token) → is_keyword s t.what ≡ true → test t ≡ b
on_keyword test s b told t e = subst (λ k. test (record { what = k; line = t.line }) ≡ b) (sym (keyword_what s t.what e)) (told t.line)

-- what has the line of a symbol is that symbol
chosen : {A : Type 0} (b : Bool) (x : A) → is_some (if b then Some x else None) ≡ true → b ≡ true
chosen true x e = refl
chosen false x e = absurd (cc)

pub has_symbol : (s : List ℕ) (t : Token) → has (symbol_at s) t ≡ true → is_symbol s t.what ≡ true
has_symbol s t e = chosen (is_symbol s t.what) t.line e

pub has_word : (s : List ℕ) (t : Token) → has (word_at s) t ≡ true → is_word s t.what ≡ true
has_word s t e = chosen (is_word s t.what) t.line e

-- what passes no test of a token that this symbol passes is no such symbol
pub not_symbol : (test : Token → Bool) (s : List ℕ) → ((line : ℕ) → test (record { what = kinds.Symbol s; line = line }) ≡ false) → (t : Token) → test t ≡ true → has (symbol_at s) t ≡ false
not_symbol test s told t e = on (is_symbol s t.what) refl where
  on : (b : Bool) → is_symbol s t.what ≡ b → has (symbol_at s) t ≡ false
  on true is = let no_way : test t ≡ false = on_symbol test s false told t is in absurd (cc)
  on false is = rw is refl

pub not_keyword : (test : Token → Bool) (s : List ℕ) → ((line : ℕ) → test (record { what = kinds.Keyword s; line = line }) ≡ false) → (t : Token) → test t ≡ true → has (keyword_at s) t ≡ false
not_keyword test s told t e = on (is_keyword s t.what) refl where
  on : (b : Bool) → is_keyword s t.what ≡ b → has (keyword_at s) t ≡ false
  on true is = let no_way : test t ≡ false = on_keyword test s false told t is in absurd (cc)
  on false is = rw is refl

pub has_keyword : (s : List ℕ) (t : Token) → has (keyword_at s) t ≡ true → is_keyword s t.what ≡ true
has_keyword s t e = chosen (is_keyword s t.what) t.line e

pub keyword_value : (s : List ℕ) (t : Token) → is_keyword s t.what ≡ true → keyword_at s t ≡ Some t.line
keyword_value s t e = rw e refl

pub keyword_token : (s : List ℕ) (t : Token) (line : ℕ) → keyword_at s t ≡ Some line → is_keyword s t.what ≡ true
keyword_token s t line e = has_keyword s t (ap is_some e)

-- the line of a keyword is that of its token
line_is : (b : Bool) (line n : ℕ) → (if b then Some line else None) ≡ Some n → line ≡ n
line_is true line n e = cc
line_is false line n e = absurd (cc)

pub keyword_line : (s : List ℕ) (t : Token) (n : ℕ) → keyword_at s t ≡ Some n → t.line ≡ n
keyword_line s t n e = line_is (is_keyword s t.what) t.line n e

-- the line of a symbol is had of that symbol
pub symbol_value : (s : List ℕ) (t : Token) → is_symbol s t.what ≡ true → symbol_at s t ≡ Some t.line
symbol_value s t e = rw e refl

pub symbol_token : (s : List ℕ) (t : Token) (line : ℕ) → symbol_at s t ≡ Some line → is_symbol s t.what ≡ true
symbol_token s t line e = has_symbol s t (ap is_some e)

-- the brackets and separators
abbrev pub opening : Token → Bool
opening = has (symbol_at (codes "("))

abbrev pub closing : Token → Bool
closing = has (symbol_at (codes ")"))

abbrev pub index_opening : Token → Bool
index_opening = has (symbol_at (codes "["))

abbrev pub index_closing : Token → Bool
index_closing = has (symbol_at (codes "]"))

-- a token with this symbol
abbrev pub some_symbol : List ℕ → Token
some_symbol s = record { what = kinds.Symbol s; line = 1 }

pub exact_symbol : (s : List ℕ) → symbol_at s (some_symbol s) ≡ Some 1 → (goes : Token → Bool) → Exact (read_one (symbol_at s)) (One (symbol_at s)) Nowhere goes
exact_symbol s e goes = exact_one (symbol_at s) (some_symbol s) 1 e goes

pub begins_never : (ts : List Token) → begins never ts ≡ false
begins_never [] = refl
begins_never (t ∷ ts) = refl

-- where anything may follow, less may
pub exact_closed : {A : Type 0} {f : List Token → Result (A × List Token) Stop} {U : List Token → A → Type 0} {B : List Token → Token → Type 0} (goes : Token → Bool) → Exact f U B never → Exact f U B goes
exact_closed goes part = exact_before never goes (λ rest free. begins_never rest) part

-- one symbol, and back
pub one_symbol : (s : List ℕ) (xs : List Token) (line : ℕ) → (w : One (symbol_at s) xs line) → is_symbol s w.token.what ≡ true
one_symbol s xs line w = symbol_token s w.token line w.passes

pub symbol_one : (s : List ℕ) (t : Token) → is_symbol s t.what ≡ true → One (symbol_at s) (t ∷ []) t.line
symbol_one s t e = record { token = t; only = refl; passes = symbol_value s t e }
