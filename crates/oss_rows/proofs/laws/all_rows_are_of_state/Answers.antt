use Rattle.oss_rows.proofs.TaskLaw as lemmas
use Rattle.oss_rows.specs.contracts.laws.all_rows_are_of_state.{S-type}
use Rattle.oss_rows.proofs.laws.all_rows_are_of_state.Goals as goal

pub returns : goal.returns
returns g c = lemmas.all_rows_are_of_state (S-type g.row.S)
