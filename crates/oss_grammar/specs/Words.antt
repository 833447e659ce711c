-- The words of each kind of token, each by itself. How words make up a text stands in `Tokens`.
-- Bytes are told by their ASCII codes, among them 9 the tab, 10 the newline, 13 the carriage return, 32 the space,
-- 34 `"`, 35 `#`, 42 `*`, 47 `/`, 48 to 57 the digits, 65 to 90 and 97 to 122 the letters, 92 `\`, 95 `_`.
use Rattle.std.specs.Prelude.{◌≡◌, ◌≢◌, ℕ, ◌+◌, ◌-◌, ◌*◌, ◌^◌, ◌<◌, ◌≤◌, Bool, true, false, ◌&&◌, ◌||◌, not, ◌⊎◌, ◌==◌, nat_le, nat_lt, if◌then◌else◌, List, [], ◌∷◌, ◌++◌, length, codes, slice_index}
use Rattle.std.specs.List.{fold, list_all}
use Rattle.std.specs.Str.{bytes_eq}
use Rattle.oss_syntax.specs.declared.token.TokenKind.{TokenKind}
use Rattle.oss_syntax.specs.declared.token.TokenKind.TheVariants.{Name, Keyword, Number, Text, Symbol, PragmaOss, PragmaEnd, Directive}

-- The first byte, where there is one, fails the test.
abbrev pub NotFirst : (ℕ → Bool) → List ℕ → Type 0
NotFirst test [] = Unit {0}
NotFirst test (b ∷ rest) = test b ≡ false

-- Names (C11 6.4.2.1): a letter or `_`, then letters, digits and `_`. `_a1` is one, `1a` is none.
unfoldable pub is_letter : ℕ → Bool
is_letter b = (nat_le 97 b && nat_le b 122) || (nat_le 65 b && nat_le b 90) || b == 95

-- the digits of base 10
unfoldable pub is_digit : ℕ → Bool
is_digit b = nat_le 48 b && nat_le b 57

-- what a name goes on with
unfoldable pub is_name_byte : ℕ → Bool
is_name_byte b = is_letter b || is_digit b

-- A name or a keyword, of whatever length: `x`, `_`, `int`, `a9`.
abbrev pub IsIdentifier : List ℕ → Type 0
IsIdentifier [] = ⊥
IsIdentifier (b ∷ more) = (is_letter b ≡ true) × (list_all is_name_byte more ≡ true)

-- The words that are no names (C11 6.4.1): those of this language. `printf` is one of them here. `ints` and `Int` are
-- names.
unfoldable pub is_used_keyword : List ℕ → Bool
is_used_keyword w =
    bytes_eq w (codes "int") || bytes_eq w (codes "long") || bytes_eq w (codes "unsigned")
    || bytes_eq w (codes "void") || bytes_eq w (codes "if") || bytes_eq w (codes "else")
    || bytes_eq w (codes "while") || bytes_eq w (codes "for") || bytes_eq w (codes "return")
    || bytes_eq w (codes "break") || bytes_eq w (codes "continue") || bytes_eq w (codes "printf")

-- Those that it leaves out: they are words of C all the same, and so no names.
unfoldable pub is_left_out_keyword : List ℕ → Bool
is_left_out_keyword w =
    bytes_eq w (codes "auto") || bytes_eq w (codes "case") || bytes_eq w (codes "char")
    || bytes_eq w (codes "const") || bytes_eq w (codes "default") || bytes_eq w (codes "do")
    || bytes_eq w (codes "double") || bytes_eq w (codes "enum") || bytes_eq w (codes "extern")
    || bytes_eq w (codes "float") || bytes_eq w (codes "goto") || bytes_eq w (codes "inline")
    || bytes_eq w (codes "register") || bytes_eq w (codes "restrict") || bytes_eq w (codes "short")
    || bytes_eq w (codes "signed") || bytes_eq w (codes "sizeof") || bytes_eq w (codes "static")
    || bytes_eq w (codes "struct") || bytes_eq w (codes "switch") || bytes_eq w (codes "typedef")
    || bytes_eq w (codes "union") || bytes_eq w (codes "volatile")

-- A keyword, of either kind.
unfoldable pub is_keyword : List ℕ → Bool
is_keyword w = is_used_keyword w || is_left_out_keyword w

-- The digit that a byte stands for; 16, which is no digit in any base here, where it stands for none.
unfoldable pub digit_of : ℕ → ℕ
digit_of b =
    if is_digit b then b - 48
    else (if nat_le 97 b && nat_le b 102 then b - 87
    else (if nat_le 65 b && nat_le b 70 then b - 55 else 16))

-- the digits of a base
unfoldable pub is_digit_in : ℕ → ℕ → Bool
is_digit_in base b = nat_lt (digit_of b) base

-- The number that digits stand for, the first digit being the greatest: the digits `10` in base 16 stand for 16.
abbrev pub value_in : ℕ → List ℕ → ℕ
value_in base digits = fold (λ value b. value * base + digit_of b) 0 digits

-- How a base is told (C11 6.4.4.1p1): digits in a base, and the word that they make with what stands before them.
-- `12` has base 10, `012` base 8, `0` base 8 with no digits behind its 0, `0x12` and `0X12` base 16.
pub data Written : ℕ → List ℕ → List ℕ → Type 0 where
  decimal : {digits : List ℕ} (d : ℕ) (more : List ℕ) → digits ≡ d ∷ more → d ≢ 48 → Written 10 digits digits
  octal : {digits word : List ℕ} → word ≡ 48 ∷ digits → Written 8 digits word
  hexadecimal : {digits word : List ℕ} (x d : ℕ) (more : List ℕ) → digits ≡ d ∷ more → (x == 120 || x == 88) ≡ true → word ≡ 48 ∷ x ∷ digits → Written 16 digits word

-- The suffixes (C11 6.4.4.1p1): `u` or `U` at most once, and one of `l`, `L`, `ll`, `LL` at most once, in either order.
-- Those without `u` and `U`, no suffix among them:
unfoldable pub is_signed_suffix : List ℕ → Bool
is_signed_suffix w =
    bytes_eq w [] || bytes_eq w (codes "l") || bytes_eq w (codes "L") || bytes_eq w (codes "ll")
    || bytes_eq w (codes "LL")

-- those with `u` or `U`
unfoldable pub is_unsigned_suffix : List ℕ → Bool
is_unsigned_suffix w =
    bytes_eq w (codes "u") || bytes_eq w (codes "ul") || bytes_eq w (codes "uL")
    || bytes_eq w (codes "ull") || bytes_eq w (codes "uLL") || bytes_eq w (codes "lu")
    || bytes_eq w (codes "Lu") || bytes_eq w (codes "llu") || bytes_eq w (codes "LLu")
    || bytes_eq w (codes "U") || bytes_eq w (codes "Ul") || bytes_eq w (codes "UL")
    || bytes_eq w (codes "Ull") || bytes_eq w (codes "ULL") || bytes_eq w (codes "lU")
    || bytes_eq w (codes "LU") || bytes_eq w (codes "llU") || bytes_eq w (codes "LLU")

-- A number is unsigned where its suffix says so, and where its value is above the greatest signed number.
abbrev pub IsMarked : List ℕ → ℕ → Bool → Type 0
IsMarked suffix value unsigned =
    ((is_unsigned_suffix suffix ≡ true) × (unsigned ≡ true))
    ⊎ ((is_signed_suffix suffix ≡ true) × (unsigned ≡ nat_lt 9223372036854775807 value))

-- Numbers (C11 6.4.4.1). `0x10` is 16, `010` is 8, `7u` and 9223372036854775808 are unsigned; `08`, `0x`, `1lL`,
-- `1uu` and 18446744073709551616 are none.
pub record IsNumber (word : List ℕ) (value : ℕ) (unsigned : Bool) : Type 0 where
  pub base : ℕ
  pub digits : List ℕ
  pub front : List ℕ
  pub suffix : List ℕ
  pub split : word ≡ front ++ suffix
  pub written : Written base digits front
  -- the digits are digits of the base, and go as far as they can
  pub all_digits : list_all (is_digit_in base) digits ≡ true
  pub no_more : NotFirst (is_digit_in base) suffix
  pub is_value : value ≡ value_in base digits
  pub fits : value < 2 ^ 64
  pub marked : IsMarked suffix value unsigned

-- What may stand in a string as it is (C11 6.4.5): any byte but `"`, `\` and those below 32 other than the tab.
unfoldable pub is_plain : ℕ → Bool
is_plain b = (nat_le 32 b || b == 9) && (not (b == 34) && not (b == 92))

-- The bytes behind a backslash (C11 6.4.4.4), and what they stand for: `\n` a newline, `\t` a tab, `\\` and `\"`
-- their second byte.
unfoldable pub is_escape : ℕ → Bool
is_escape b = b == 110 || b == 116 || b == 92 || b == 34

-- what the byte behind the backslash stands for
unfoldable pub escaped : ℕ → ℕ
escaped b = if b == 110 then 10 else (if b == 116 then 9 else b)

-- The bytes between the quotes of a string, and those that it stands for: `a\tb` for `a`, a tab, `b`. No `"` stands
-- there alone, so the first one ends the string; `\q` is no part of one.
pub data Spells : List ℕ → List ℕ → Type 0 where
  nothing : Spells [] []
  plain : (b : ℕ) {word bytes : List ℕ} → is_plain b ≡ true → Spells word bytes → Spells (b ∷ word) (b ∷ bytes)
  escape : (b : ℕ) {word bytes : List ℕ} → is_escape b ≡ true → Spells word bytes → Spells (92 ∷ b ∷ word) (escaped b ∷ bytes)

-- Symbols (C11 6.4.6): of one byte + - * / % & | ^ ~ ! < > = ( ) [ ] { } ; , : ? .
unfoldable pub is_one : ℕ → Bool
is_one a =
    a == 43 || a == 45 || a == 42 || a == 47 || a == 37 || a == 38 || a == 124 || a == 94 || a == 126 || a == 33
    || a == 60 || a == 62 || a == 61 || a == 40 || a == 41 || a == 91 || a == 93 || a == 123 || a == 125 || a == 59
    || a == 44 || a == 58 || a == 63 || a == 46

-- of two bytes += -= *= /= %= &= |= ^= <= >= == != ++ -- << >> && || ->
unfoldable pub is_two : ℕ → ℕ → Bool
is_two a b =
    (b == 61 && (a == 43 || a == 45 || a == 42 || a == 47 || a == 37 || a == 38 || a == 124 || a == 94 || a == 60
    || a == 62 || a == 61 || a == 33))
    || (b == 43 && a == 43) || (b == 45 && a == 45) || (b == 60 && a == 60) || (b == 62 && a == 62)
    || (b == 38 && a == 38) || (b == 124 && a == 124) || (b == 62 && a == 45)

-- of three bytes <<= >>=
unfoldable pub is_three : ℕ → ℕ → ℕ → Bool
is_three a b c = c == 61 && ((a == 60 && b == 60) || (a == 62 && b == 62))

-- A symbol, by how many bytes it has.
unfoldable pub is_symbol : List ℕ → Bool
is_symbol [] = false
is_symbol (a ∷ []) = is_one a
is_symbol (a ∷ b ∷ []) = is_two a b
is_symbol (a ∷ b ∷ c ∷ []) = is_three a b c
is_symbol (a ∷ b ∷ c ∷ d ∷ more) = false

-- The text begins with `/*` or `//`, which opens a comment (C11 6.4.9): no symbol begins there.
unfoldable pub opens_comment : List ℕ → Bool
opens_comment text = slice_index text 0 == 47 && (slice_index text 1 == 42 || slice_index text 1 == 47)

-- The words of a kind of token. A name has at most 63 bytes. Only PragmaOss, PragmaEnd and Directive are no words: see
-- `Tokens`. The other tokens of a pragma line are words as anywhere else.
abbrev pub IsWord : TokenKind → List ℕ → Type 0
IsWord (Name name) word = (name ≡ word) × IsIdentifier word × (is_keyword word ≡ false) × (length word ≤ 63)
IsWord (Keyword name) word = (name ≡ word) × IsIdentifier word × (is_keyword word ≡ true)
IsWord (Number value unsigned) word = IsNumber word value unsigned
IsWord (Text bytes) word = (inner : List ℕ) × (word ≡ 34 ∷ (inner ++ 34 ∷ [])) × Spells inner bytes
IsWord (Symbol symbol) word = (symbol ≡ word) × (is_symbol word ≡ true)
IsWord PragmaOss word = ⊥
IsWord PragmaEnd word = ⊥
IsWord Directive word = ⊥

-- A word ends where it cannot go on (the longest match, C11 6.4p4): `<<=` is one symbol, and `x+++y` is read `x ++ + y`.
-- A letter, digit or `_` never stands directly behind a name or a number. `1/2` has a symbol, `1//2` a comment.
abbrev pub Ends : TokenKind → List ℕ → List ℕ → Type 0
Ends (Name name) word rest = NotFirst is_name_byte rest
Ends (Keyword name) word rest = NotFirst is_name_byte rest
Ends (Number value unsigned) word rest = NotFirst is_name_byte rest
Ends (Text bytes) word rest = Unit {0}
Ends (Symbol symbol) word rest =
    ((b : ℕ) (more left : List ℕ) → rest ≡ b ∷ (more ++ left) → is_symbol (word ++ b ∷ more) ≡ false)
    × (opens_comment (word ++ rest) ≡ false)
Ends PragmaOss word rest = Unit {0}
Ends PragmaEnd word rest = Unit {0}
Ends Directive word rest = Unit {0}
