use Rattle.std.proofs.Common.{◌≡◌, length}
use Rattle.oss_expressions.specs.ExpressionReading.{read_expression, read_more}
use Rattle.oss_parse.specs.SimpleReading.{read_local}
use Rattle.oss_parse.proofs.simple.more_locals.Given as goal

-- what is read behind the locals so far is what is read of the whole
abbrev pub invariant-locals : goal.invariant-locals
invariant-locals l = read_more (read_local read_expression l.numbers) l.found l.tokens ≡ read_more (read_local read_expression l.numbers) l.fn.found l.fn.tokens

abbrev pub decreases-locals : goal.decreases-locals
decreases-locals l = length l.tokens
