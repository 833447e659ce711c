use Rattle.std.proofs.Common.{refl}
use Rattle.oss_jobs.proofs.JobLemmas.{numbered}
use Rattle.oss_jobs.proofs.job.Job.start.Goals as goal

pub returns-clause-job : goal.returns-clause-job
returns-clause-job c = numbered c.args.task _ _ (record {
  few = c.requires.numbers;
  task = refl;
  cells = refl;
  body = refl;
  prints = refl;
  entries = λ cell. refl;
  last = record { lasts = λ cell. refl; last_child = refl; room = λ accesses enough. enough };
})
