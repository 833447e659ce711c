use Rattle.oss_model.proofs.StayLemmas as lemmas
use Rattle.oss_model.specs.contracts.laws.ready_stays.{S-type}
use Rattle.oss_model.proofs.laws.ready_stays.Goals as goal

pub returns : goal.returns
returns g c = lemmas.ready_law (S-type g.row.S)
