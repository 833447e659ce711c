use Rattle.oss_expressions.proofs.ExactAnswers.{expression_answer}
use Rattle.oss_expressions.proofs.calls.expression.Goals as goal

pub returns : goal.returns
returns c = expression_answer _ _ c.requires.within _ c.expression_told.ensures
