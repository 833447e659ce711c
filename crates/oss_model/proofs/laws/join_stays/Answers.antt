use Rattle.oss_model.proofs.StayLemmas as lemmas
use Rattle.oss_model.specs.contracts.laws.join_stays.{S-type}
use Rattle.oss_model.proofs.laws.join_stays.Goals as goal

pub returns : goal.returns
returns g c = lemmas.join_law (S-type g.row.S)
