use Rattle.oss_rows.proofs.TaskLaw as lemmas
use Rattle.oss_rows.specs.contracts.laws.task_rows_are_added.{S-type}
use Rattle.oss_rows.proofs.laws.task_rows_are_added.Goals as goal

pub returns : goal.returns
returns g c = lemmas.task_rows_are_added (S-type g.row.S)
