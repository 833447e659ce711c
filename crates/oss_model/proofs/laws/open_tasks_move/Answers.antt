use Rattle.oss_model.proofs.ProgressTheorem as lemmas
use Rattle.oss_model.specs.contracts.laws.open_tasks_move.{S-type}
use Rattle.oss_model.proofs.laws.open_tasks_move.Goals as goal

pub returns : goal.returns
returns g c = lemmas.open_tasks_move (S-type g.row.S)
