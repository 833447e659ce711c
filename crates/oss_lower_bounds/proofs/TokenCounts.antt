-- A text has no more tokens than bytes: each token has a byte of its own.
use Rattle.std.proofs.Common.{◌≡◌, ℕ, ◌+◌, ◌≤◌, true, List, [], ◌∷◌, ◌++◌, length, Option, Some, None, refl, sym, ap, subst, arith, length-append}
use Rattle.std.specs.Prelude.{codes}
use Rattle.oss_syntax.specs.declared.token.Token.{Token}
use Rattle.oss_syntax.specs.declared.token.TokenKind.{TokenKind}
use Rattle.oss_syntax.specs.declared.token.TokenKind.TheVariants as kinds
use Rattle.oss_grammar.specs.declared.line_part.LinePart.{LinePart}
use Rattle.oss_grammar.specs.Tokens.{Front, IsFront, Tokens, found_before}
use Rattle.oss_grammar.specs.Tokens.IsFront.{directive, gap, include, newline, other_pragma, pragma_end, pragma_oss, token}
use Rattle.oss_grammar.specs.Tokens.Tokens.{done, step}
use Rattle.oss_grammar.specs.Words.{IsIdentifier, IsWord, Written, is_symbol}
use Rattle.oss_grammar.specs.Words.Written.{decimal, hexadecimal, octal}

-- Words

identifier_long : (word : List ℕ) → IsIdentifier word → 1 ≤ length word
identifier_long [] h = absurd h
identifier_long (b ∷ more) h = omega arith

written_long : {base : ℕ} {digits front : List ℕ} → Written base digits front → 1 ≤ length front
written_long (decimal d more is other) = subst (λ w. 1 ≤ length w) (sym is) (omega arith)
written_long (octal is) = subst (λ w. 1 ≤ length w) (sym is) (omega arith)
written_long (hexadecimal x d more is sign split) = subst (λ w. 1 ≤ length w) (sym split) (omega arith)

symbol_long : (word : List ℕ) → is_symbol word ≡ true → 1 ≤ length word
unfolding is_symbol
symbol_long [] h = absurd (cc)
symbol_long (b ∷ more) h = omega arith

-- a word has a byte
word_long : (what : TokenKind) (word : List ℕ) → IsWord what word → 1 ≤ length word
word_long (kinds.Name name) word h = identifier_long word h.1
word_long (kinds.Keyword name) word h = identifier_long word h.1
word_long (kinds.Number value unsigned) word h = omega (arith, ap (λ w. length w) h.split, length-append h.front h.suffix, written_long h.written)
word_long (kinds.Text bytes) word h = subst (λ w. 1 ≤ length w) (sym h.1) (omega arith)
word_long (kinds.Symbol symbol) word h = symbol_long word h.1
word_long kinds.PragmaOss word h = absurd h
word_long kinds.PragmaEnd word h = absurd h
word_long kinds.Directive word h = absurd h

-- Fronts

-- how many tokens a front is
abbrev counted : Option TokenKind → ℕ
counted None = 0
counted (Some what) = 1

abbrev bytes : {xs ys : List ℕ} → xs ≡ ys → length xs ≡ length ys
bytes split = ap (λ l. length l) split

-- a front that is a token has a byte
front_long : {part : LinePart} {text : List ℕ} (front : Front) → IsFront part text front → counted front.what + length front.rest ≤ length text
front_long front (newline rest other split) = omega (arith, bytes split)
front_long front (pragma_end rest split) = omega (arith, bytes split)
front_long front (gap word rest split is_gap) = omega (arith, bytes split, length-append word rest)
front_long front (token what rest begins) = omega (arith, bytes begins.split, length-append begins.word rest, word_long what begins.word begins.is_word)
front_long front (include line rest has is_line) = omega (arith, bytes has.split, length-append (codes "#include") (line ++ rest), length-append line rest)
front_long front (pragma_oss gaps next rest has are_gaps oss) =
    let three : length (codes "oss") ≡ 3 = refl in
    omega (arith, three, bytes has.split, length-append (codes "#pragma") (gaps ++ next), length-append gaps next, bytes oss.split, length-append (codes "oss") rest)
front_long front (other_pragma gaps line rest has are_gaps no_comment no_oss is_line) =
    omega (arith, bytes has.split, length-append (codes "#pragma") (gaps ++ (line ++ rest)), length-append gaps (line ++ rest), length-append line rest)
front_long front (directive line rest split no_include no_pragma is_line) = omega (arith, bytes split, length-append line rest)

before_long : (found : Option TokenKind) (line : ℕ) (ts : List Token) → length (found_before found line ts) ≡ counted found + length ts
before_long None line ts = omega arith
before_long (Some what) line ts = omega arith

-- the tokens of a text
pub tokens_few : {part : LinePart} {line : ℕ} {text : List ℕ} (ts : List Token) → Tokens part line text ts → length ts ≤ length text
tokens_few ts (done over) = omega arith
tokens_few {line = line} ts (step front more is_front rest split) =
    omega (arith, ap (λ l. length l) split, before_long front.what line more, front_long front is_front, tokens_few more rest)
