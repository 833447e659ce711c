use Rattle.oss_free_tasks.proofs.OpenLemmas as lemmas
use Rattle.oss_free_tasks.specs.contracts.laws.open_tasks_go_on.{S-type}
use Rattle.oss_free_tasks.proofs.laws.open_tasks_go_on.Goals as goal

pub returns : goal.returns
returns g c = lemmas.open_tasks_go_on (S-type g.row.S)
