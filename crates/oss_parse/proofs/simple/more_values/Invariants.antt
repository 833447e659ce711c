use Rattle.std.proofs.Common.{◌≡◌, length}
use Rattle.oss_expressions.specs.ExpressionReading.{read_expression, read_more}
use Rattle.oss_parse.proofs.simple.more_values.Given as goal

-- what is read behind the values so far is what is read of the whole
abbrev pub invariant-values : goal.invariant-values
invariant-values l = read_more read_expression l.found l.tokens ≡ read_more read_expression l.fn.found l.fn.tokens

abbrev pub decreases-values : goal.decreases-values
decreases-values l = length l.tokens
