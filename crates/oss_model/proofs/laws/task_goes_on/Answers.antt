use Rattle.oss_model.proofs.StayLemmas as lemmas
use Rattle.oss_model.specs.contracts.laws.task_goes_on.{S-type}
use Rattle.oss_model.proofs.laws.task_goes_on.Goals as goal

pub returns : goal.returns
returns g c = lemmas.task_law (S-type g.row.S)
