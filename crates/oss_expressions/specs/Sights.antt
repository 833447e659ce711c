-- What is seen of the tokens that are left: those up to the last operator that is allowed, and with it the one too many. The others
-- stand behind them. Read against: of `a + b - c` up to 2 operators `a + b -` is seen, and `c` stands behind.
use Rattle.std.specs.Prelude.{ℕ, List}
use Rattle.oss_syntax.specs.declared.token.Token.{Token}
use Rattle.oss_grammar.specs.Reading.{shown, unshown}
use Rattle.oss_grammar.specs.Levels.{is_operator}

pub record Sight : Type 0 where
  pub seen : List Token
  pub behind : List Token

-- The sight of tokens up to this number of operators.
abbrev pub sight_of : ℕ → List Token → Sight
sight_of n ts = record { seen = shown is_operator n ts; behind = unshown is_operator n ts }
