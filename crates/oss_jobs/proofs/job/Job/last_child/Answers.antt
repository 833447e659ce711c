use Rattle.oss_jobs.proofs.job.Job.last_child.Goals as goal

pub returns-clause-last : goal.returns-clause-last
returns-clause-last c = λ code before t b last is. is.last_child
