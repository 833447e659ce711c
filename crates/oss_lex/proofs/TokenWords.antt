-- The token at the front of a text, of whichever kind.
use Rattle.std.proofs.Common.{◌≡◌, ℕ, ◌<◌, Bool, true, false, List, [], ◌∷◌, ◌++◌, length, refl, inl, inr, arith, append_assoc}
use Rattle.std.proofs.lemmas.Bool.{cases_Bool, eqb-true}
use Rattle.std.proofs.lemmas.Bool.Decides.{nat_tests}
use Rattle.std.specs.Prelude.{◌==◌, Ok, Err}
use Rattle.oss_syntax.specs.declared.token.TokenKind.{TokenKind}
use Rattle.oss_syntax.specs.declared.token.TokenKind.TheVariants.{Name, Keyword, Number, Text, Symbol, PragmaOss, PragmaEnd, Directive}
use Rattle.oss_syntax.specs.declared.refusal.RefusedKind.TheVariants.{Lexical, TooLarge}
use Rattle.oss_grammar.specs.Words.{NotFirst, is_letter, is_digit, is_name_byte, is_symbol, is_keyword, IsIdentifier, IsWord, Ends}
use Rattle.oss_grammar.specs.Tokens.{Begins, IsLong}
use Rattle.oss_lex.specs.Reading.{Answer, string_at, token_at}
use Rattle.oss_lex.proofs.Answers.{Fits}
use Rattle.oss_lex.proofs.NameWords.{name_fits, name_again, keyword_again, long_again}
use Rattle.oss_lex.proofs.NumberWords.{number_fits, number_again, number_first}
use Rattle.oss_lex.proofs.StringWords.{StringFits, string_fits, string_again}
use Rattle.oss_lex.proofs.SymbolWords.{symbol_fits, symbol_again, symbol_first}

quoted_fits : (b : ℕ) (more : List ℕ) (answer : Answer) → b ≡ 34 → StringFits false [] more answer → Fits (b ∷ more) answer
quoted_fits b more (Ok taken) quote fits =
    let split : b ∷ more ≡ (34 ∷ (fits.0 ++ 34 ∷ [])) ++ taken.1 = rw (quote, fits.2, append_assoc) refl in
    rw fits.4 (record { word = 34 ∷ (fits.0 ++ 34 ∷ []); split = split; is_word = (fits.0, refl, fits.3); ends = tt })
quoted_fits b more (Err Lexical) quote fits = tt
quoted_fits b more (Err _) quote fits = absurd fits

-- The token that is answered begins the text.
pub token_fits : (text : List ℕ) → Fits text (token_at text)
unfolding token_at
token_fits [] = tt
token_fits (b ∷ more) =
    elim (cases_Bool (is_letter b)) [
      | inl letter ↦ rw letter (name_fits b more letter)
      | inr no_letter ↦ rw no_letter (elim (cases_Bool (is_digit b)) [
        | inl digit ↦ rw digit (number_fits b more digit)
        | inr no_digit ↦ rw no_digit (elim (cases_Bool (b == 34)) [
          | inl quote ↦ rw quote (quoted_fits b more (string_at false [] more) (eqb-true b 34 quote) (string_fits more false []))
          | inr no_quote ↦ rw no_quote (symbol_fits (b ∷ more))
        ])
      ])
    ]

-- Each token is answered where it begins the text.
name_token : (name word rest : List ℕ) → IsWord (Name name) word → Ends (Name name) word rest → token_at (word ++ rest) ≡ Ok (Name name, rest)
unfolding token_at
name_token name [] rest is ends = absurd is.1
name_token name (b ∷ more) rest is ends =
    rw (is.1.0, is.0) (name_again (b ∷ more) rest is.1 is.2 is.3 ends)

keyword_token : (name word rest : List ℕ) → IsWord (Keyword name) word → Ends (Keyword name) word rest → token_at (word ++ rest) ≡ Ok (Keyword name, rest)
unfolding token_at
keyword_token name [] rest is ends = absurd is.1
keyword_token name (b ∷ more) rest is ends =
    rw (is.1.0, is.0) (keyword_again (b ∷ more) rest is.1 is.2 ends)

digit_no_letter : (b : ℕ) → is_digit b ≡ true → is_letter b ≡ false
unfolding is_digit is_letter
digit_no_letter b digit = grind (arith, nat_tests)

number_token : (value : ℕ) (unsigned : Bool) (word rest : List ℕ) → IsWord (Number value unsigned) word → Ends (Number value unsigned) word rest → token_at (word ++ rest) ≡ Ok (Number value unsigned, rest)
unfolding token_at
number_token value unsigned word rest is ends =
    let (d, more, whole, digit) = number_first word value unsigned is in
    let read = number_again word rest value unsigned is ends in
    rw (whole, digit_no_letter d digit, digit) (rw whole at read)

text_token : (bytes word rest : List ℕ) → IsWord (Text bytes) word → Ends (Text bytes) word rest → token_at (word ++ rest) ≡ Ok (Text bytes, rest)
unfolding token_at is_letter is_digit
text_token bytes word rest is ends = rw (is.1, append_assoc) (string_again is.2 [] rest)

symbol_token : (symbol word rest : List ℕ) → IsWord (Symbol symbol) word → Ends (Symbol symbol) word rest → token_at (word ++ rest) ≡ Ok (Symbol symbol, rest)
unfolding token_at is_symbol
symbol_token symbol [] rest is ends = let none : false ≡ true = is.1 in cc
symbol_token symbol (a ∷ more) rest is ends =
    let (no_letter, no_digit, no_quote) = symbol_first a more is.1 in
    let ends_there : Ends (Symbol (a ∷ more)) (a ∷ more) rest = ends in
    rw (no_letter, no_digit, no_quote, is.0) (symbol_again (a ∷ more) rest is.1 ends_there)

word_again : (what : TokenKind) (word rest : List ℕ) → IsWord what word → Ends what word rest → token_at (word ++ rest) ≡ Ok (what, rest)
word_again (Name name) word rest is ends = name_token name word rest is ends
word_again (Keyword name) word rest is ends = keyword_token name word rest is ends
word_again (Number value unsigned) word rest is ends = number_token value unsigned word rest is ends
word_again (Text bytes) word rest is ends = text_token bytes word rest is ends
word_again (Symbol symbol) word rest is ends = symbol_token symbol word rest is ends
word_again PragmaOss word rest is ends = absurd is
word_again PragmaEnd word rest is ends = absurd is
word_again Directive word rest is ends = absurd is

pub token_again : (text : List ℕ) (what : TokenKind) (rest : List ℕ) → Begins text what rest → token_at text ≡ Ok (what, rest)
token_again text what rest begins = rw begins.split (word_again what begins.word rest begins.is_word begins.ends)

long_text : (word rest : List ℕ) → IsIdentifier word → is_keyword word ≡ false → 63 < length word → NotFirst is_name_byte rest → token_at (word ++ rest) ≡ Err TooLarge
unfolding token_at
long_text [] rest is name long ends = absurd is
long_text (b ∷ more) rest is name long ends = rw is.0 (long_again (b ∷ more) rest is name long ends)

pub long_name : (text : List ℕ) → IsLong text → token_at text ≡ Err TooLarge
long_name text long = rw long.split (long_text long.word long.rest long.is_word long.no_keyword long.long long.ends)

-- A word has a byte.
pub word_some : (what : TokenKind) (word : List ℕ) → IsWord what word → 0 < length word
unfolding is_symbol
word_some (Name name) [] is = absurd is.1
word_some (Keyword name) [] is = absurd is.1
word_some (Number value unsigned) [] is = let (d, more, whole, digit) = number_first [] value unsigned is in absurd (cc)
word_some (Text bytes) [] is = let none : [] ≡ 34 ∷ (is.0 ++ 34 ∷ []) = is.1 in absurd (cc)
word_some (Symbol symbol) [] is = let none : false ≡ true = is.1 in absurd (cc)
word_some PragmaOss [] is = absurd is
word_some PragmaEnd [] is = absurd is
word_some Directive [] is = absurd is
word_some what (b ∷ word) is = omega arith
