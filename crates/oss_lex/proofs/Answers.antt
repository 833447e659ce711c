-- What an answer of the reader says of the text.
use Rattle.std.proofs.Common.{ℕ, List}
use Rattle.std.specs.Prelude.{Ok, Err}
use Rattle.oss_syntax.specs.declared.refusal.RefusedKind.TheVariants.{Lexical, TooLarge}
use Rattle.oss_grammar.specs.Tokens.{Begins, IsLong}
use Rattle.oss_lex.specs.Reading.{Answer}

-- The text begins with the token that is answered, or with a name that is too long. Of `Lexical` nothing is said yet.
abbrev pub Fits : List ℕ → Answer → Type 0
Fits text (Ok taken) = Begins text taken.0 taken.1
Fits text (Err TooLarge) = IsLong text
Fits text (Err Lexical) = Unit {0}
Fits text (Err _) = ⊥
