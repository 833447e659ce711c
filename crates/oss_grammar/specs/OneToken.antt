-- Which token is which: a symbol, a keyword and a word told by their bytes. Read against: in `in(x)` the first token is the
-- word `in` and no keyword, and the second is the symbol `(`.
use Rattle.std.specs.Prelude.{◌≡◌, ℕ, Bool, true, false, List, codes}
use Rattle.std.specs.Str.{bytes_eq}
use Rattle.oss_syntax.specs.declared.token.Token.{Token}
use Rattle.oss_syntax.specs.declared.token.TokenKind.{TokenKind}
use Rattle.oss_syntax.specs.declared.token.TokenKind.TheVariants as kinds

-- a punctuator with these bytes (C11 6.4.6)
abbrev pub is_symbol : List ℕ → TokenKind → Bool
is_symbol s (kinds.Symbol w) = bytes_eq w s
is_symbol s _ = false

-- a keyword with these bytes (C11 6.4.1)
abbrev pub is_keyword : List ℕ → TokenKind → Bool
is_keyword k (kinds.Keyword w) = bytes_eq w k
is_keyword k _ = false

-- a name with these bytes: the words of a pragma are names (OmpSs-2, directives)
abbrev pub is_word : List ℕ → TokenKind → Bool
is_word n (kinds.Name w) = bytes_eq w n
is_word n _ = false

-- The token is the punctuator with these bytes: `+` is the one of `codes "+"`, and `+=` is not.
abbrev pub IsSymbol : List ℕ → Token → Type 0
IsSymbol s t = is_symbol s t.what ≡ true

-- The token is the keyword with these bytes; a name is none.
abbrev pub IsKeyword : List ℕ → Token → Type 0
IsKeyword k t = is_keyword k t.what ≡ true

-- The token is the name with these bytes: `in` is the word of `codes "in"`, and `if` is a keyword and no word.
abbrev pub IsWord : List ℕ → Token → Type 0
IsWord n t = is_word n t.what ≡ true

-- the marks that stand round and between the parts of a text
abbrev pub IsOpen : Token → Type 0
IsOpen = IsSymbol (codes "(")

-- the mark `)`, which closes what `(` opens
abbrev pub IsClose : Token → Type 0
IsClose = IsSymbol (codes ")")

-- the mark `[`, which opens an index
abbrev pub IsIndexOpen : Token → Type 0
IsIndexOpen = IsSymbol (codes "[")

-- the mark `]`, which closes an index
abbrev pub IsIndexClose : Token → Type 0
IsIndexClose = IsSymbol (codes "]")

-- the mark `,`, which stands between the parts of a list
abbrev pub IsComma : Token → Type 0
IsComma = IsSymbol (codes ",")
