use Rattle.oss_lower_bounds.proofs.TaskEntries.{task_entries_fit}
use Rattle.oss_lower_bounds.proofs.laws.task_entries_fit.Goals as goal

pub returns : goal.returns
returns c = task_entries_fit
