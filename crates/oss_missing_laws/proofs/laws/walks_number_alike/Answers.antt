use Rattle.oss_missing_laws.proofs.NumberLemmas as lemmas
use Rattle.oss_missing_laws.specs.contracts.laws.walks_number_alike.{S-type}
use Rattle.oss_missing_laws.proofs.laws.walks_number_alike.Goals as goal

pub returns : goal.returns
returns g c = lemmas.walks_number_alike (S-type g.row.S)
