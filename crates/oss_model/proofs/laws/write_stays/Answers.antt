use Rattle.oss_model.proofs.StayLemmas as lemmas
use Rattle.oss_model.specs.contracts.laws.write_stays.{S-type}
use Rattle.oss_model.proofs.laws.write_stays.Goals as goal

pub returns : goal.returns
returns g c = lemmas.write_law (S-type g.row.S)
