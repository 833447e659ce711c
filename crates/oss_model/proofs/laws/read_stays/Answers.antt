use Rattle.oss_model.proofs.StayLemmas as lemmas
use Rattle.oss_model.specs.contracts.laws.read_stays.{S-type}
use Rattle.oss_model.proofs.laws.read_stays.Goals as goal

pub returns : goal.returns
returns g c = lemmas.read_law (S-type g.row.S)
