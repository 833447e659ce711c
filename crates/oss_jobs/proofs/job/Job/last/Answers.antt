use Rattle.std.proofs.Common.{◌∙◌}
use Rattle.oss_jobs.proofs.job.Job.last.Goals as goal

pub returns-clause-last : goal.returns-clause-last
returns-clause-last c = λ code before t b last is. c.told.ensures ∙ is.lasts c.args.cell
