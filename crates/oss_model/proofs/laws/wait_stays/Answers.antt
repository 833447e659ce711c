use Rattle.oss_model.proofs.StayLemmas as lemmas
use Rattle.oss_model.specs.contracts.laws.wait_stays.{S-type}
use Rattle.oss_model.proofs.laws.wait_stays.Goals as goal

pub returns : goal.returns
returns g c = lemmas.wait_law (S-type g.row.S)
