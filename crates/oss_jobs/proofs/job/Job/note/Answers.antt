use Rattle.std.proofs.Common.{refl, ap, ◌∙◌, ◌+◌, List}
use Rattle.oss_syntax.specs.declared.access.Access.{Access}
use Rattle.oss_ranges.specs.Cells.{value_at}
use Rattle.oss_jobs.specs.Entries.{entered}
use Rattle.oss_jobs.proofs.JobLemmas.{noted_is}
use Rattle.oss_jobs.proofs.job.Job.note.Goals as goal

pub returns-clause-job : goal.returns-clause-job
returns-clause-job c = noted_is c.args.accesses.now c.args.child _ _ (record {
  rising = c.requires.rising;
  few = c.requires.numbers;
  task = refl;
  cells = refl;
  body = refl;
  prints = refl;
  entries = λ cell. refl;
  lasts = λ cell.
      c.enter.ensures cell
      ∙ ap (λ (xs : List Access). entered (c.args.child + 1) xs cell (value_at c.args.self.now.lasts.pieces cell)) c.as_slice.ensures;
  last_child = refl;
})
