-- A text has no more tokens than bytes.
use Rattle.std.proofs.Common.{◌≡◌, ℕ, ◌+◌, ◌<◌, ◌≤◌, List, length, ap, arith, Option, Some, None, Result, Ok, Err, inl, inr}
use Rattle.oss_syntax.specs.declared.token.Token.{Token}
use Rattle.oss_syntax.specs.declared.token.TokenKind.{TokenKind}
use Rattle.oss_grammar.specs.declared.line_part.LinePart.{LinePart}
use Rattle.oss_syntax.specs.declared.tree.program.Program.{Program}
use Rattle.oss_syntax.specs.declared.refusal.Refusal.{Refusal}
use Rattle.oss_syntax.specs.declared.refusal.Refusal.TheVariants as refusal
use Rattle.oss_grammar.specs.Tokens.{Tokens, IsReading, found_before}
use Rattle.oss_grammar.specs.Tokens.Tokens.{done, step}
use Rattle.oss_lex.proofs.Fronts.{front_again}
use Rattle.oss_lex.proofs.Walk.{step_shorter}
use Rattle.oss_parse.specs.Parsed.{IsParsed, IsToldOf}

one_more : (what : Option TokenKind) (line : ℕ) (more : List Token) → length (found_before what line more) ≤ length more + 1
one_more None line more = omega arith
one_more (Some what) line more = omega arith

pub few_tokens : {part : LinePart} {line : ℕ} {text : List ℕ} {tokens : List Token} → Tokens part line text tokens → length tokens ≤ length text
few_tokens (done over) = omega arith
few_tokens {part = part} {line = line} {text = text} {tokens = tokens} (step front more is_front rest found) =
    let shorter : length front.rest < length text = step_shorter part text front.what front.part front.lines front.rest (front_again part text front is_front) in
    let size : length tokens ≡ length (found_before front.what line more) = ap length found in
    let one = one_more front.what line more in
    let behind = few_tokens rest in
    omega arith

-- what is told of the tokens of a text is told of the text
pub parsed_by : (text : List ℕ) (ts : List Token) (r : Result Program Refusal) → IsReading text (Ok ts) → IsToldOf text ts r → IsParsed text r
parsed_by text ts (Ok program) read told = record { tokens = ts; are_tokens = read; is_told = told }
parsed_by text ts (Err (refusal.Refused refused)) read told = inr (record { tokens = ts; are_tokens = read; is_told = told })
parsed_by text ts (Err (refusal.Memory error)) read told = tt

-- a text without tokens is refused as they are
pub unread_by : (text : List ℕ) (r : Refusal) → IsReading text (Err r) → IsParsed text (Err r)
unread_by text (refusal.Refused refused) read = inl read
unread_by text (refusal.Memory error) read = tt
