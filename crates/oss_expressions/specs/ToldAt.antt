-- What calls tell that read from a place in a list of tokens: the value and the place behind it, or the refusal. Read against: of the
-- four tokens `a + ) ;`, read from place 0, reading stops with `) ;` left, so the refusal is `Syntax` with the line of `)` and 2 tokens
-- before it.
use Rattle.std.specs.Prelude.{◌≡◌, ℕ, ◌-◌, List, [], ◌∷◌, length, take, drop, Result, Ok, Err}
use Rattle.oss_syntax.specs.declared.token.Token.{Token}
use Rattle.oss_syntax.specs.declared.refusal.Refusal.{Refusal}
use Rattle.oss_syntax.specs.declared.refusal.Refusal.TheVariants as refusal
use Rattle.oss_syntax.specs.declared.refusal.Refused.{Refused}
use Rattle.oss_syntax.specs.declared.refusal.RefusedKind.TheVariants as kind
use Rattle.oss_grammar.specs.Reading.{Reader, Stop}
use Rattle.oss_grammar.specs.Reading.Stop.{Syntax, Deep}
use Rattle.oss_grammar.specs.Refusals.{kind_of, is_in_pragma}
use Rattle.oss_expressions.specs.declared.cursor.Unread.{Unread}
use Rattle.oss_expressions.specs.declared.cursor.Unread.TheVariants as unread

-- The number of tokens before those that are left, and these tokens.
abbrev pub count_before : List Token → List Token → ℕ
count_before ts left = length ts - length left

abbrev pub tokens_before : List Token → List Token → List Token
tokens_before ts left = take (count_before ts left) ts

-- The refusal of tokens whose reading stopped: a token that fits nowhere has its kind, its line and its number; at the end of the
-- tokens the line is 0; a token that passes a limit has its line alone.
abbrev pub refused_at : List Token → Stop → Refused
refused_at ts (Syntax []) = record { kind = kind.Syntax; line = 0; token = count_before ts [] }
refused_at ts (Syntax (t ∷ more)) =
    record { kind = kind_of (is_in_pragma (tokens_before ts (t ∷ more)) t.what) t.what; line = t.line; token = count_before ts (t ∷ more) }
refused_at ts (Deep []) = record { kind = kind.TooLarge; line = 0; token = 0 }
refused_at ts (Deep (t ∷ more)) = record { kind = kind.TooLarge; line = t.line; token = 0 }

-- What was read, or where reading stopped, as a place in all tokens.
abbrev pub placed_in : {A : Type 0} → List Token → Result (A × List Token) Stop → Result (A × ℕ) Refused
placed_in ts (Ok read) = Ok (read.0, count_before ts read.1)
placed_in ts (Err stop) = Err (refused_at ts stop)

-- What a call answers that reads from a place of the tokens on.
abbrev pub IsToldAt : {A : Type 0} → Reader A → List Token → ℕ → Result (A × ℕ) Refusal → Type 0
IsToldAt read ts at (Ok found) = placed_in ts (read (drop at ts)) ≡ Ok found
IsToldAt read ts at (Err (refusal.Refused refused)) = placed_in ts (read (drop at ts)) ≡ Err refused
IsToldAt read ts at (Err (refusal.Memory error)) = Unit {0}

-- This is the refusal of all tokens where these were left and nothing was read, for this reason.
abbrev pub IsRefusalFor : Unread → List Token → List Token → Refusal → Type 0
IsRefusalFor unread.Syntax ts left told = told ≡ refusal.Refused (refused_at ts (Syntax left))
IsRefusalFor unread.Deep ts left told = told ≡ refusal.Refused (refused_at ts (Deep left))
IsRefusalFor (unread.Memory error) ts left told = told ≡ refusal.Memory error
