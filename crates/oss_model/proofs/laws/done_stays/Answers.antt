use Rattle.oss_model.proofs.StayLemmas as lemmas
use Rattle.oss_model.specs.contracts.laws.done_stays.{S-type}
use Rattle.oss_model.proofs.laws.done_stays.Goals as goal

pub returns : goal.returns
returns g c = lemmas.done_law (S-type g.row.S)
