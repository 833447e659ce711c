use Rattle.oss_expressions.specs.ExpressionReading.{read_expression}
use Rattle.oss_expressions.proofs.limits.expression.Goals as goal

pub returns : goal.returns
unfolding read_expression
returns c = c.counted.ensures
