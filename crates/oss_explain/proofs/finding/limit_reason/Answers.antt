use Rattle.oss_explanation.specs.Explanations.IsReason.{deep_before, many_before}
use Rattle.oss_explain.proofs.finding.limit_reason.Goals as goal

pub returns-in-TooDeep : goal.returns-in-TooDeep
returns-in-TooDeep c = λ all b P s f count e r. rw c.in-TooDeep.is deep_before

pub returns-in-TooManyTasks : goal.returns-in-TooManyTasks
returns-in-TooManyTasks c = λ all b P s f count e r. rw c.in-TooManyTasks.is many_before
