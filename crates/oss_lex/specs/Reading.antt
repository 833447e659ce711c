-- What the reader's functions answer, as functions on lists. That these are the answers of the definitions of
-- `oss_grammar` is proved of them once, in proofs/. Read against: at the front of `0x1f;` stands a number, so `token_at` answers
-- the number 31, signed, with `;` behind it; of `0x;` it answers `Lexical`. At the front of ` a` stands a blank of one byte, so
-- `front_at` gives no token, no newline and the rest `a`.
use Rattle.std.specs.Prelude.{◌≡◌, ℕ, zero, suc, ◌+◌, ◌-◌, ◌^◌, Bool, true, false, not, ◌&&◌, ◌||◌, ◌==◌, nat_lt, if◌then◌else◌, List, [], ◌∷◌, ◌++◌, length, take, drop, codes, slice_index, Option, Some, None, Result, Ok, Err}
use Rattle.std.specs.List.{prefix_len}
use Rattle.std.specs.Str.{bytes_eq}
use Rattle.oss_syntax.specs.declared.token.TokenKind.{TokenKind}
use Rattle.oss_syntax.specs.declared.token.TokenKind.TheVariants.{Name, Keyword, Number, Text, Symbol, PragmaOss, PragmaEnd, Directive}
use Rattle.oss_grammar.specs.declared.line_part.LinePart.{LinePart}
use Rattle.oss_grammar.specs.declared.line_part.LinePart.TheVariants.{Beginning, Later, Pragma}
use Rattle.oss_syntax.specs.declared.refusal.RefusedKind.{RefusedKind}
use Rattle.oss_syntax.specs.declared.refusal.RefusedKind.TheVariants.{Lexical, TooLarge}
use Rattle.oss_syntax.specs.declared.refusal.Refusal.{Refusal}
use Rattle.oss_syntax.specs.declared.refusal.Refused.{Refused as RefusedAt}
use Rattle.oss_syntax.specs.declared.refusal.Refusal.TheVariants.{Refused, Memory}
use Rattle.oss_grammar.specs.Words.{is_letter, is_digit, is_name_byte, is_keyword, is_digit_in, value_in, is_signed_suffix, is_unsigned_suffix, is_plain, is_escape, escaped, is_one, is_two, is_three, opens_comment}
use Rattle.oss_grammar.specs.Tokens.{is_blank, ends_line, newlines, part_behind, Front}
use Rattle.oss_lex.specs.declared.taken.Step.{Step}
use Rattle.oss_lex.specs.declared.taken.Taken.{Taken}

-- a token and what stands behind it, or why there is none
abbrev pub Answer : Type 0
Answer = Result (TokenKind × List ℕ) RefusedKind

-- what a word that a letter begins is, with what stands behind it
unfoldable pub name_answer : List ℕ → List ℕ → Answer
name_answer word rest =
    if is_keyword word
    then Ok (Keyword word, rest)
    else (if nat_lt 63 (length word) then Err TooLarge else Ok (Name word, rest))

unfoldable pub name_at : List ℕ → Answer
name_at text = let n = prefix_len is_name_byte text in name_answer (take n text) (drop n text)

-- the value and the sign of a number, from its value and its suffix
unfoldable pub marked : ℕ → List ℕ → Option (ℕ × Bool)
marked value suffix =
    if nat_lt value (2 ^ 64)
    then (if is_unsigned_suffix suffix then Some (value, true)
    else (if is_signed_suffix suffix then Some (value, nat_lt 9223372036854775807 value) else None))
    else None

unfoldable pub number_in : ℕ → List ℕ → Option (ℕ × Bool)
number_in base word =
    let n = prefix_len (is_digit_in base) word in marked (value_in base (take n word)) (drop n word)

unfoldable pub hexadecimal_of : List ℕ → Option (ℕ × Bool)
hexadecimal_of word = if prefix_len (is_digit_in 16) word == 0 then None else number_in 16 word

unfoldable pub zero_number_of : List ℕ → Option (ℕ × Bool)
zero_number_of [] = number_in 8 []
zero_number_of (x ∷ more) = if x == 120 || x == 88 then hexadecimal_of more else number_in 8 (x ∷ more)

unfoldable pub number_of : List ℕ → Option (ℕ × Bool)
number_of [] = None
number_of (d ∷ more) = if d == 48 then zero_number_of more else number_in 10 (d ∷ more)

unfoldable pub number_told : Option (ℕ × Bool) → List ℕ → Answer
number_told (Some number) rest = Ok (Number number.0 number.1, rest)
number_told None rest = Err Lexical

unfoldable pub number_at : List ℕ → Answer
number_at text = let n = prefix_len is_name_byte text in number_told (number_of (take n text)) (drop n text)

-- the string behind an opening quote, after these bytes; the flag says that a backslash stands just before
unfoldable pub string_at : Bool → List ℕ → List ℕ → Answer
string_at escape bytes [] = Err Lexical
string_at false bytes (b ∷ more) =
    if b == 34 then Ok (Text bytes, more)
    else (if b == 92 then string_at true bytes more
    else (if is_plain b then string_at false (bytes ++ b ∷ []) more else Err Lexical))
string_at true bytes (b ∷ more) = if is_escape b then string_at false (bytes ++ escaped b ∷ []) more else Err Lexical

-- how many bytes of the text the longest symbol at its beginning has
unfoldable pub symbol_len : List ℕ → ℕ
symbol_len text =
    if is_three (slice_index text 0) (slice_index text 1) (slice_index text 2) then 3
    else (if is_two (slice_index text 0) (slice_index text 1) then 2
    else (if is_one (slice_index text 0) then 1 else 0))

-- a symbol of so many bytes
unfoldable pub symbol_told : ℕ → List ℕ → Answer
symbol_told n text = if n == 0 then Err Lexical else Ok (Symbol (take n text), drop n text)

-- what opens a comment is no symbol; where the comment ends it is a blank, and no token is asked for
unfoldable pub symbol_at : List ℕ → Answer
symbol_at text = if opens_comment text then Err Lexical else symbol_told (symbol_len text) text

unfoldable pub token_at : List ℕ → Answer
token_at [] = Err Lexical
token_at (b ∷ more) =
    if is_letter b then name_at (b ∷ more)
    else (if is_digit b then number_at (b ∷ more)
    else (if b == 34 then string_at false [] more else symbol_at (b ∷ more)))

-- a length behind some bytes more, where there is one
unfoldable pub lengthened : ℕ → ℕ → ℕ
lengthened more n = if n == 0 then 0 else more + n

-- how many bytes up to the first `*/`, with it; 0 where there is none
unfoldable pub close_len : List ℕ → ℕ
close_len [] = 0
close_len (b ∷ more) = if b == 42 && slice_index more 0 == 47 then 2 else lengthened 1 (close_len more)

-- how many bytes up to the end of the line; the flag says that a backslash stands just before
unfoldable pub remark_len : Bool → List ℕ → ℕ
remark_len backslash [] = 0
remark_len backslash (b ∷ more) = if ends_line backslash b then 0 else suc (remark_len (b == 92) more)

-- how many bytes the blank or comment at the front of the text has; 0 where there is none
unfoldable pub gap_len_behind : ℕ → List ℕ → ℕ
gap_len_behind a [] = 0
gap_len_behind a (b ∷ more) =
    if a == 92 && b == 10 then 2
    else (if a == 47 && b == 42 then lengthened 2 (close_len more)
    else (if a == 47 && b == 47 then 2 + remark_len false more else 0))

unfoldable pub gap_len : List ℕ → ℕ
gap_len [] = 0
gap_len (a ∷ more) = if is_blank a then 1 else gap_len_behind a more

-- how many bytes all blanks at the front of the text have, where the first so many bytes are known to stand in one
unfoldable pub gaps_len : ℕ → List ℕ → ℕ
gaps_len inside [] = 0
gaps_len (suc inside) (b ∷ more) = suc (gaps_len inside more)
gaps_len zero (b ∷ more) =
    let n = gap_len (b ∷ more) in if n == 0 then 0 else suc (gaps_len (n - 1) more)

-- how many bytes up to the next newline
abbrev pub line_len : List ℕ → ℕ
line_len text = prefix_len (λ b. not (b == 10)) text

-- the front of a text, in its parts
abbrev pub front : Option TokenKind → LinePart → ℕ → List ℕ → Front
front what part lines rest = record { what = what; part = part; lines = lines; rest = rest }

-- why a text is refused: for what stands at its front, or for a comment so many lines on, before the next word of a
-- `#pragma`
pub data Fault : Type 0 where
  at_front : RefusedKind → Fault
  in_head : ℕ → Fault

-- a line behind `#pragma` and the blanks behind that, on which so many newlines stand
unfoldable pub pragma_behind : ℕ → List ℕ → Result Front Fault
pragma_behind lines text =
    let n = prefix_len is_name_byte text in
    if opens_comment text then Err (in_head lines)
    else (if bytes_eq (take n text) (codes "oss") then Ok (front (Some PragmaOss) Pragma lines (drop n text))
    else Ok (front None Later lines (drop (line_len text) text)))

unfoldable pub pragma_at : List ℕ → Result Front Fault
pragma_at text = let n = gaps_len 0 text in pragma_behind (newlines (take n text)) (drop n text)

-- a line behind its `#`: its first word, what stands behind that, and all of it
unfoldable pub hash_behind : List ℕ → List ℕ → List ℕ → Result Front Fault
hash_behind word behind text =
    if bytes_eq word (codes "include") then Ok (front None Later 0 (drop (line_len behind) behind))
    else (if bytes_eq word (codes "pragma") then pragma_at behind
    else Ok (front (Some Directive) Later 0 (drop (line_len text) text)))

unfoldable pub hash_at : List ℕ → Result Front Fault
hash_at text = let n = prefix_len is_name_byte text in hash_behind (take n text) (drop n text) text

unfoldable pub newline_at : LinePart → List ℕ → Front
newline_at Beginning rest = front None Beginning 1 rest
newline_at Later rest = front None Beginning 1 rest
newline_at Pragma rest = front (Some PragmaEnd) Beginning 1 rest

abbrev pub is_beginning : LinePart → Bool
is_beginning Beginning = true
is_beginning Later = false
is_beginning Pragma = false

-- a token as the front of a text
unfoldable pub token_told : LinePart → Answer → Result Front Fault
token_told part (Ok taken) = Ok (front (Some taken.0) (part_behind part) 0 taken.1)
token_told part (Err kind) = Err (at_front kind)

-- the front of a text, where so many bytes of it are a blank
unfoldable pub front_behind : LinePart → ℕ → List ℕ → Result Front Fault
front_behind part zero text = token_told part (token_at text)
front_behind part (suc n) text = Ok (front None part (newlines (take (suc n) text)) (drop (suc n) text))

-- the front of a text, or why it is refused
unfoldable pub front_at : LinePart → List ℕ → Result Front Fault
front_at part [] = Err (at_front Lexical)
front_at part (b ∷ more) =
    if b == 10 then Ok (newline_at part more)
    else (if b == 35 && is_beginning part then hash_at more
    else front_behind part (gap_len (b ∷ more)) (b ∷ more))

-- a function answers as a function on lists did, with this line where it refuses the text; want of memory says nothing
abbrev pub AnswersAs : Answer → ℕ → Result Taken Refusal → Type 0
AnswersAs answer line (Ok taken) = answer ≡ Ok (taken.what, taken.rest.now)
AnswersAs answer line (Err (Refused refused)) = (answer ≡ Err refused.kind) × (refused.line ≡ line) × (refused.token ≡ 0)
AnswersAs answer line (Err (Memory error)) = Unit {0}

-- a step shows this front
abbrev pub Shows : Front → Step → Type 0
Shows told step = told ≡ front step.what step.part step.lines step.rest.now

-- a refusal is this answer, of a text that begins at this line
abbrev pub RefusesAs : Result Front Fault → ℕ → RefusedAt → Type 0
RefusesAs (Ok told) line refused = ⊥
RefusesAs (Err (at_front kind)) line refused = (refused.kind ≡ kind) × (refused.line ≡ line) × (refused.token ≡ 0)
RefusesAs (Err (in_head lines)) line refused = (refused.kind ≡ Lexical) × (refused.line ≡ line + lines) × (refused.token ≡ 0)

-- a function steps over this front, or refuses the text as it is refused there; want of memory says nothing
abbrev pub StepsAs : Result Front Fault → ℕ → Result Step Refusal → Type 0
StepsAs answer line (Ok step) = answer ≡ Ok (front step.what step.part step.lines step.rest.now)
StepsAs answer line (Err (Refused refused)) = RefusesAs answer line refused
StepsAs answer line (Err (Memory error)) = Unit {0}
