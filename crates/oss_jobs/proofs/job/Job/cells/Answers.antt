use Rattle.oss_jobs.proofs.job.Job.cells.Goals as goal

pub returns-clause-cells : goal.returns-clause-cells
returns-clause-cells c = λ code before t b last is. is.cells
