-- What the call that reads a whole text answers: the tree of its tokens, or why they are refused. The refusals of the tokens
-- themselves come before all.
use Rattle.std.specs.Prelude.{◌≡◌, ℕ, ◌+◌, ◌⊎◌, List, [], ◌∷◌, Result, Ok, Err}
use Rattle.oss_syntax.specs.declared.token.Token.{Token}
use Rattle.oss_syntax.specs.declared.tree.program.Program.{Program}
use Rattle.oss_syntax.specs.declared.refusal.Refusal.{Refusal}
use Rattle.oss_syntax.specs.declared.refusal.Refusal.TheVariants as refusal
use Rattle.oss_syntax.specs.declared.refusal.Refused.{Refused}
use Rattle.oss_grammar.specs.Reading.{Stop}
use Rattle.oss_grammar.specs.Reading.Stop.{Syntax, Deep}
use Rattle.oss_grammar.specs.Tokens.{newlines, IsReading}
use Rattle.oss_expressions.specs.declared.cursor.Unread.{Unread}
use Rattle.oss_expressions.specs.declared.cursor.Unread.TheVariants as unread
use Rattle.oss_expressions.specs.ToldAt.{refused_at as refused_within}
use Rattle.oss_parse.specs.ProgramReading.{read_text}

-- The line of the end of a text: it is 2 where the text is one line and a newline.
abbrev pub line_of_end : List ℕ → ℕ
line_of_end text = 1 + newlines text

abbrev pub with_line : ℕ → Refused → Refused
with_line line refused = record { kind = refused.kind; line = line; token = refused.token }

-- The refusal with the line of the end of the text, where no token is left, and else with that of the first one left.
abbrev pub placed_at : List ℕ → List Token → Refused → Refused
placed_at text [] refused = with_line (line_of_end text) refused
placed_at text (t ∷ left) refused = refused

-- The refusal of a text whose reading stopped at a place of its tokens.
abbrev pub refused_at : List ℕ → List Token → Stop → Refused
refused_at text ts (Syntax left) = placed_at text left (refused_within ts (Syntax left))
refused_at text ts (Deep left) = placed_at text left (refused_within ts (Deep left))

-- What reading these tokens of the text tells.
abbrev pub told_of : List ℕ → List Token → Result (Program × List Token) Stop → Result Program Refused
told_of text ts (Ok read) = Ok read.0
told_of text ts (Err stop) = Err (refused_at text ts stop)

-- The text has tokens, and this is told of them.
pub record TokensTell (text : List ℕ) (answer : Result Program Refused) : Type 0 where
  pub tokens : List Token
  pub are_tokens : IsReading text (Ok tokens)
  pub is_told : told_of text tokens (read_text tokens) ≡ answer

-- What the call answers. Checked on `int main() {` and a newline: its 5 tokens are a beginning of a program, reading stops behind
-- them, and the refusal is Syntax at line 2 with 5 tokens before it.
abbrev pub IsParsed : List ℕ → Result Program Refusal → Type 0
IsParsed text (Ok program) = TokensTell text (Ok program)
IsParsed text (Err (refusal.Refused refused)) = IsReading text (Err (refusal.Refused refused)) ⊎ TokensTell text (Err refused)
IsParsed text (Err (refusal.Memory error)) = Unit {0}

-- The same of the tokens of a text.
abbrev pub IsToldOf : List ℕ → List Token → Result Program Refusal → Type 0
IsToldOf text ts (Ok program) = told_of text ts (read_text ts) ≡ Ok program
IsToldOf text ts (Err (refusal.Refused refused)) = told_of text ts (read_text ts) ≡ Err refused
IsToldOf text ts (Err (refusal.Memory error)) = Unit {0}

-- The refusal of tokens of a text, of which these were left where nothing was read.
abbrev pub RefusesAt : Unread → List ℕ → List Token → List Token → Refusal → Type 0
RefusesAt unread.Syntax text ts left told = told ≡ refusal.Refused (refused_at text ts (Syntax left))
RefusesAt unread.Deep text ts left told = told ≡ refusal.Refused (refused_at text ts (Deep left))
RefusesAt (unread.Memory error) text ts left told = told ≡ refusal.Memory error
