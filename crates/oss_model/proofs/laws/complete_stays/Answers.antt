use Rattle.oss_model.proofs.StayLemmas as lemmas
use Rattle.oss_model.specs.contracts.laws.complete_stays.{S-type}
use Rattle.oss_model.proofs.laws.complete_stays.Goals as goal

pub returns : goal.returns
returns g c = lemmas.complete_law (S-type g.row.S)
