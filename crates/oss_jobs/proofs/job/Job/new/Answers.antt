use Rattle.std.proofs.Common.{refl, ap, ◌∙◌, List}
use Rattle.oss_syntax.specs.declared.access.Access.{Access}
use Rattle.oss_ranges.specs.Cells.{value_at}
use Rattle.oss_jobs.specs.Entries.{entered}
use Rattle.oss_jobs.proofs.EntryLemmas.{few_cells}
use Rattle.oss_jobs.proofs.JobLemmas.{begun}
use Rattle.oss_jobs.proofs.job.Job.new.Goals as goal

pub returns-clause-job : goal.returns-clause-job
returns-clause-job c = begun c.args.body c.args.accesses.now _ (record {
  rising = c.requires.rising;
  few = few_cells c.args.accesses.now c.requires.rising;
  body_is = refl;
  task_is = refl;
  cells = c.count_cells-cells.ensures.cells;
  prints = c.new.ensures.items;
  entries = λ cell.
      c.enter.ensures cell
      ∙ (ap (λ (xs : List Access). entered 1 xs cell (value_at c.reserve_all.new.self.pieces cell)) c.as_slice.ensures
      ∙ ap (λ pieces. entered 1 c.args.accesses.now cell (value_at pieces cell)) (c.reserve_all.ensures.same ∙ c.new-entries.ensures));
  lasts = λ cell. ap (λ pieces. value_at pieces cell) c.new-2.ensures;
  last_child = refl;
})
