-- How blanks, words and lines make up a text: its tokens with their lines, or the first place that refuses it. Lines
-- count the newlines from 1, also those in comments and behind a backslash. Bytes are told by their ASCII codes, as in
-- `Words`.
use Rattle.std.specs.Prelude.{◌≡◌, ◌≢◌, ℕ, ◌+◌, ◌<◌, Bool, true, false, not, ◌&&◌, ◌||◌, ◌==◌, List, [], ◌∷◌, ◌++◌, length, codes, Option, Some, None, Result, Ok, Err, slice_index}
use Rattle.std.specs.List.{list_all, count_by}
use Rattle.oss_syntax.specs.declared.token.TokenKind.{TokenKind}
use Rattle.oss_syntax.specs.declared.token.TokenKind.TheVariants.{PragmaOss, PragmaEnd, Directive}
use Rattle.oss_syntax.specs.declared.token.Token.{Token}
use Rattle.oss_grammar.specs.declared.line_part.LinePart.{LinePart}
use Rattle.oss_grammar.specs.declared.line_part.LinePart.TheVariants.{Beginning, Later, Pragma}
use Rattle.oss_syntax.specs.declared.refusal.RefusedKind.{RefusedKind}
use Rattle.oss_syntax.specs.declared.refusal.RefusedKind.TheVariants.{Lexical, TooLarge}
use Rattle.oss_syntax.specs.declared.refusal.Refusal.{Refusal}
use Rattle.oss_syntax.specs.declared.refusal.Refusal.TheVariants.{Refused, Memory}
use Rattle.oss_grammar.specs.Words.{NotFirst, is_name_byte, is_keyword, opens_comment, IsIdentifier, IsWord, Ends}

-- Blanks (C11 6.4p3): a space, a tab, a carriage return. A newline is one too, but ends its line: see `IsFront`.
unfoldable pub is_blank : ℕ → Bool
is_blank b = b == 32 || b == 9 || b == 13

-- What stands behind `/*` (C11 6.4.9p1): any bytes up to the first `*/`. ` a */` is one, ` */ b */` is none.
pub data Closes : List ℕ → Type 0 where
  close : Closes (42 ∷ 47 ∷ [])
  inside : (b : ℕ) (more : List ℕ) → (b == 42 && slice_index more 0 == 47) ≡ false → Closes more → Closes (b ∷ more)

-- For `//` comments alone: a newline ends such a comment's line where no backslash stands directly before it (C11
-- 5.1.1.2p1, second phase). Skipped lines and those of a Directive end at their first newline byte: see `IsLine`.
unfoldable pub ends_line : Bool → ℕ → Bool
ends_line backslash b = b == 10 && not backslash

-- What stands behind `//` (C11 6.4.9p2), and the rest: any bytes to the end of the line or of the text. The flag says
-- that a backslash stands directly before. Where a line of such a comment ends with a backslash, the next line belongs to
-- it too.
pub data Remarks : Bool → List ℕ → List ℕ → Type 0 where
  over : {backslash : Bool} {rest : List ℕ} → NotFirst (λ b. not (ends_line backslash b)) rest → Remarks backslash [] rest
  goes_on : {backslash : Bool} {rest : List ℕ} (b : ℕ) (more : List ℕ) → ends_line backslash b ≡ false → Remarks (b == 92) more rest → Remarks backslash (b ∷ more) rest

-- What counts as a blank, before this rest: a blank, a backslash with the newline behind it, a comment (C11 6.4p3).
-- `1/**/2` is two numbers.
pub data IsGap : List ℕ → List ℕ → Type 0 where
  blank : {word rest : List ℕ} (b : ℕ) → word ≡ b ∷ [] → is_blank b ≡ true → IsGap word rest
  spliced : {word rest : List ℕ} → word ≡ 92 ∷ 10 ∷ [] → IsGap word rest
  comment : {word rest : List ℕ} (more : List ℕ) → word ≡ 47 ∷ 42 ∷ more → Closes more → IsGap word rest
  remark : {word rest : List ℕ} (more : List ℕ) → word ≡ 47 ∷ 47 ∷ more → Remarks false more rest → IsGap word rest

-- Such blanks one after the other, as many as there are before this rest.
pub data IsGaps : List ℕ → List ℕ → Type 0 where
  none : {rest : List ℕ} → ((word more : List ℕ) → rest ≡ word ++ more → IsGap word more → ⊥) → IsGaps [] rest
  one_more : {all rest : List ℕ} (word gaps : List ℕ) → all ≡ word ++ gaps → IsGap word (gaps ++ rest) → IsGaps gaps rest → IsGaps all rest

-- how many newlines stand in these bytes
abbrev pub newlines : List ℕ → ℕ
newlines word = count_by (λ b. b == 10) word

-- The text begins with a word of this token, which ends where the rest begins.
pub record Begins (text : List ℕ) (what : TokenKind) (rest : List ℕ) : Type 0 where
  pub word : List ℕ
  pub split : text ≡ word ++ rest
  pub is_word : IsWord what word
  pub ends : Ends what word rest

-- The text begins with these bytes, and the name that they end does not go on.
pub record HasWord (word text rest : List ℕ) : Type 0 where
  pub split : text ≡ word ++ rest
  pub ends : NotFirst is_name_byte rest

-- A text up to its next newline, whatever stands there, and the rest.
pub record IsLine (line rest : List ℕ) : Type 0 where
  pub no_newline : list_all (λ b. not (b == 10)) line ≡ true
  pub ends : NotFirst (λ b. not (b == 10)) rest

-- A token on its line stands before what follows it.
abbrev pub part_behind : LinePart → LinePart
part_behind Beginning = Later
part_behind Later = Later
part_behind Pragma = Pragma

-- What stands at the front of a text: a token, or nothing that is one; and where on its line and how many lines on the
-- rest begins.
pub record Front : Type 0 where
  pub what : Option TokenKind
  pub part : LinePart
  pub lines : ℕ
  pub rest : List ℕ

-- The fronts of a text, by where on its line it begins. Read against these lines: `#include <a.h>`, `#pragma omp task`,
-- `#pragma ossx` and `#pragma` are skipped; `# pragma oss`, `#includes` and `#` are Directive; `#pragma oss(` is PragmaOss
-- and `(`, and so is `#pragma/**/oss(`. A `#` behind a token of its line is none of these fronts, nor is it one behind
-- `x \`, a newline and blanks, which end no line.
pub data IsFront : LinePart → List ℕ → Front → Type 0 where
  -- a newline ends its line, and a pragma with it
  newline : {part : LinePart} {text : List ℕ} (rest : List ℕ) → part ≢ Pragma → text ≡ 10 ∷ rest → IsFront part text (record { what = None; part = Beginning; lines = 1; rest = rest })
  pragma_end : {text : List ℕ} (rest : List ℕ) → text ≡ 10 ∷ rest → IsFront Pragma text (record { what = Some PragmaEnd; part = Beginning; lines = 1; rest = rest })
  -- blanks and comments change nothing; the newlines in them end no line
  gap : {part : LinePart} {text : List ℕ} (word rest : List ℕ) → text ≡ word ++ rest → IsGap word rest → IsFront part text (record { what = None; part = part; lines = newlines word; rest = rest })
  -- a token, behind which its line goes on
  token : {part : LinePart} {text : List ℕ} (what : TokenKind) (rest : List ℕ) → Begins text what rest → IsFront part text (record { what = Some what; part = part_behind part; lines = 0; rest = rest })
  -- `#include` lines are skipped (C11 6.10.2)
  include : {text : List ℕ} (line rest : List ℕ) → HasWord (codes "#include") text (line ++ rest) → IsLine line rest → IsFront Beginning text (record { what = None; part = Later; lines = 0; rest = rest })
  -- `#pragma` (C11 6.10.6) with `oss` as its next word begins a pragma; with another next word or none its line is
  -- skipped. Blanks and comments may stand before that word; a comment there ends, else the text is refused.
  pragma_oss : {text : List ℕ} (gaps next rest : List ℕ) → HasWord (codes "#pragma") text (gaps ++ next) → IsGaps gaps next → HasWord (codes "oss") next rest → IsFront Beginning text (record { what = Some PragmaOss; part = Pragma; lines = newlines gaps; rest = rest })
  other_pragma : {text : List ℕ} (gaps line rest : List ℕ) → HasWord (codes "#pragma") text (gaps ++ (line ++ rest)) → IsGaps gaps (line ++ rest) → opens_comment (line ++ rest) ≡ false → ((more : List ℕ) → HasWord (codes "oss") (line ++ rest) more → ⊥) → IsLine line rest → IsFront Beginning text (record { what = None; part = Later; lines = newlines gaps; rest = rest })
  -- any other line that begins with `#` is one token
  directive : {text : List ℕ} (line rest : List ℕ) → text ≡ 35 ∷ (line ++ rest) → ((more : List ℕ) → HasWord (codes "#include") text more → ⊥) → ((more : List ℕ) → HasWord (codes "#pragma") text more → ⊥) → IsLine line rest → IsFront Beginning text (record { what = Some Directive; part = Later; lines = 0; rest = rest })

-- The front's token, if it is one, before the tokens of the rest.
abbrev pub found_before : Option TokenKind → ℕ → List Token → List Token
found_before None line tokens = tokens
found_before (Some what) line tokens = record { what = what; line = line } ∷ tokens

-- The tokens of a text that begins at this place of this line: those of its fronts, one behind the other. At the end of
-- the text nothing is added, also where a pragma is not ended.
pub data Tokens : LinePart → ℕ → List ℕ → List Token → Type 0 where
  done : {part : LinePart} {line : ℕ} {text : List ℕ} → text ≡ [] → Tokens part line text []
  step : {part : LinePart} {line : ℕ} {text : List ℕ} {tokens : List Token} (front : Front) (more : List Token) → IsFront part text front → Tokens front.part (line + front.lines) front.rest more → tokens ≡ found_before front.what line more → Tokens part line text tokens

-- The text begins with a name of more than 63 bytes.
pub record IsLong (text : List ℕ) : Type 0 where
  pub word : List ℕ
  pub rest : List ℕ
  pub split : text ≡ word ++ rest
  pub is_word : IsIdentifier word
  pub no_keyword : is_keyword word ≡ false
  pub long : 63 < length word
  pub ends : NotFirst is_name_byte rest

-- A comment before the next word of a `#pragma` does not end.
pub record IsUnclosed (text gaps : List ℕ) : Type 0 where
  pub next : List ℕ
  pub has_word : HasWord (codes "#pragma") text (gaps ++ next)
  pub are_gaps : IsGaps gaps next
  pub opens : opens_comment next ≡ true

-- Why a text is refused, and how many lines on: its front is none of these, or a name that is too long, or a `#pragma`
-- with a comment that does not end.
pub data IsFaulty : LinePart → List ℕ → RefusedKind → ℕ → Type 0 where
  bad : {part : LinePart} {text : List ℕ} → text ≢ [] → ((front : Front) → IsFront part text front → ⊥) → (IsLong text → ⊥) → (part ≡ Beginning → (gaps : List ℕ) → IsUnclosed text gaps → ⊥) → IsFaulty part text Lexical 0
  long : {part : LinePart} {text : List ℕ} → IsLong text → IsFaulty part text TooLarge 0
  unclosed : {text : List ℕ} (gaps : List ℕ) → IsUnclosed text gaps → IsFaulty Beginning text Lexical (newlines gaps)

-- Why and on which line a text is refused, which begins at this place of this line: at the first front that is faulty.
pub data Stops : LinePart → ℕ → List ℕ → RefusedKind → ℕ → Type 0 where
  here : {part : LinePart} {line : ℕ} {text : List ℕ} {kind : RefusedKind} (lines : ℕ) → IsFaulty part text kind lines → Stops part line text kind (line + lines)
  past : {part : LinePart} {line at : ℕ} {text : List ℕ} {kind : RefusedKind} (front : Front) → IsFront part text front → Stops front.part (line + front.lines) front.rest kind at → Stops part line text kind at

-- What reading a text answers: its tokens, or its refusal.
abbrev pub IsReading : List ℕ → Result (List Token) Refusal → Type 0
IsReading text (Ok tokens) = Tokens Beginning 1 text tokens
IsReading text (Err (Refused refused)) = Stops Beginning 1 text refused.kind refused.line × (refused.token ≡ 0)
IsReading text (Err (Memory error)) = Unit {0}

-- A text has at most one list of tokens, none where it is refused, and at most one refusal.
pub record IsReadOnce (text : List ℕ) : Type 0 where
  pub one_list : (tokens others : List Token) → Tokens Beginning 1 text tokens → Tokens Beginning 1 text others → tokens ≡ others
  pub no_both : (tokens : List Token) (kind : RefusedKind) (at : ℕ) → Tokens Beginning 1 text tokens → Stops Beginning 1 text kind at → ⊥
  pub one_refusal : (kind other : RefusedKind) (at other_at : ℕ) → Stops Beginning 1 text kind at → Stops Beginning 1 text other other_at → (kind ≡ other) × (at ≡ other_at)
