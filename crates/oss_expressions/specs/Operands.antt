-- What stands between two binary operators. Read against: of `-a * b` an operand is `-a`, and `* b` is left; with one level of
-- operators above that, which is that of `*`, all of it is read.
use Rattle.std.specs.Prelude.{ℕ}
use Rattle.oss_syntax.specs.declared.tree.expr.Expr.{Expr}
use Rattle.oss_grammar.specs.Reading.{Reader}
use Rattle.oss_expressions.specs.ExpressionReading.{read_prefixed, read_unary, read_whole, read_levels}

-- An expression without a binary operator, in which so many levels may still begin.
abbrev pub read_operand : ℕ → Reader Expr
read_operand levels = read_prefixed (read_unary levels) (read_whole levels)

-- An expression of so many levels of binary operators above that.
abbrev pub read_above : ℕ → ℕ → Reader Expr
read_above more levels = read_levels more (read_operand levels)
