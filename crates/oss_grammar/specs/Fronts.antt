-- What begins a text of a grammar.
use Rattle.std.specs.Prelude.{List, ◌++◌}
use Rattle.oss_syntax.specs.declared.token.Token.{Token}

-- The tokens begin a text of the grammar: there are tokens that complete them. `1 +`, `f(` and nothing at all begin an expression,
-- `1 2` and `)` do not.
pub record Viable {A : Type 0} (G : List Token → A → Type 0) (front : List Token) : Type 0 where
  pub more : List Token
  pub value : A
  pub member : G (front ++ more) value
