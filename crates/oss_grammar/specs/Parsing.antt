-- What the reader of a whole program text answers: the tree of the text, or why it is refused, and where.
-- Read against: `int main() { x = ; }` is refused as Syntax at its last `;`, with 7 tokens before it; `int main() {` and a newline
-- as Syntax at its end, on line 2, with 5 tokens; `int x; )` as Syntax at `)`, behind a program that is whole.
use Rattle.std.specs.Prelude.{◌≡◌, ℕ, ◌+◌, List, [], ◌∷◌, ◌++◌, length, Result, Ok, Err}
use Rattle.oss_syntax.specs.declared.token.Token.{Token}
use Rattle.oss_syntax.specs.declared.tree.program.Program.{Program}
use Rattle.oss_grammar.specs.declared.line_part.LinePart.TheVariants.{Beginning}
use Rattle.oss_syntax.specs.declared.refusal.Refusal.{Refusal}
use Rattle.oss_syntax.specs.declared.refusal.Refusal.TheVariants.{Refused, Memory}
use Rattle.oss_syntax.specs.declared.refusal.Refused.{Refused as RefusedData}
use Rattle.oss_syntax.specs.declared.refusal.RefusedKind.{RefusedKind}
use Rattle.oss_syntax.specs.declared.refusal.RefusedKind.TheVariants.{Syntax, TooLarge}
use Rattle.oss_grammar.specs.Programs.{IsProgram}
use Rattle.oss_grammar.specs.Refusals.{Language, Reaches, IsExcess, IsWithin, IsNone, kind_of, is_in_pragma}
use Rattle.oss_grammar.specs.StatementLimits.{IsProgramExcess}
use Rattle.oss_grammar.specs.Tokens.{Tokens, Stops, newlines}

-- The programs as a grammar with its limits (C11 6.9).
unfoldable pub programs : Language Program
programs = record { Has = IsProgram; Exceeds = IsProgramExcess }

-- The line of the end of a text: 2 where the text is one line and a newline.
abbrev pub end_line : List ℕ → ℕ
end_line text = 1 + newlines text

-- The tokens of a whole text are refused for this reason, with this line, and with so many tokens before the offending one: the first
-- with which they no longer begin a text of the grammar, or the end of the tokens. A limit that is passed comes first where it is
-- passed before the offending token; its refusal counts no tokens. Checked on `int main() {` and 65 times `{`: TooLarge at the last.
pub data RefusesText {A : Type 0} (L : Language A) (end : ℕ) (ts : List Token) : RefusedKind → ℕ → ℕ → Type 0 where
  text_too_large : (front : List Token) (t : Token) (more : List Token) → ts ≡ front ++ (t ∷ more)
      → IsExcess L front t → IsWithin L front
      → RefusesText L end ts TooLarge t.line 0
  at_token_of_text : (front : List Token) (t : Token) (more : List Token)
      → Reaches L.Has ts front (t ∷ more) → IsWithin L front
      → RefusesText L end ts (kind_of (is_in_pragma front t.what) t.what) t.line (length front)
  at_end_of_text : Reaches L.Has ts ts [] → IsNone L.Has ts → IsWithin L ts
      → RefusesText L end ts Syntax end (length ts)

-- The text has tokens, and they are this program, and pass no limit.
pub record IsProgramText (text : List ℕ) (found : Program) : Type 0 where
  pub tokens : List Token
  pub are_tokens : Tokens Beginning 1 text tokens
  pub is_program : IsProgram tokens found
  pub within : IsWithin programs tokens

-- The text is refused so: it has no tokens, or they are refused. The refusals of the tokens come before all.
pub data IsTextRefusal (text : List ℕ) (refused : RefusedData) : Type 0 where
  by_tokens : Stops Beginning 1 text refused.kind refused.line → refused.token ≡ 0 → IsTextRefusal text refused
  by_grammar : (tokens : List Token) → Tokens Beginning 1 text tokens → RefusesText programs (end_line text) tokens refused.kind refused.line refused.token → IsTextRefusal text refused

-- What the reader of a text answers: its tree, exactly where it is a program within the limits, else its refusal. Want of memory says
-- nothing.
abbrev pub IsParse : List ℕ → Result Program Refusal → Type 0
IsParse text (Ok found) = IsProgramText text found
IsParse text (Err (Refused refused)) = IsTextRefusal text refused
IsParse text (Err (Memory error)) = Unit {0}

-- A text has at most one answer, memory aside: one tree, or one refusal, and not both.
pub record IsParsedOnce (text : List ℕ) : Type 0 where
  pub one_program : (found other : Program) → IsParse text (Ok found) → IsParse text (Ok other) → found ≡ other
  pub no_both : (found : Program) (refused : RefusedData) → IsParse text (Ok found) → IsParse text (Err (Refused refused)) → ⊥
  pub one_refusal : (refused other : RefusedData) → IsParse text (Err (Refused refused)) → IsParse text (Err (Refused other)) → refused ≡ other
