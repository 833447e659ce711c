use Rattle.std.proofs.Common.{ap, ◌∙◌}
use Rattle.oss_jobs.specs.Entries.{moved, or_zero}
use Rattle.oss_jobs.proofs.job.Job.entry.Goals as goal

pub returns-clause-entry : goal.returns-clause-entry
returns-clause-entry c = λ code before t b last is. c.number_of.ensures ∙ ap or_zero (c.moved_by.ensures ∙ ap (moved c.args.self.now.task) c.told.ensures ∙ is.entries c.args.cell)
