use Rattle.oss_missing_laws.proofs.ToldTheorem as lemmas
use Rattle.oss_missing_laws.specs.contracts.laws.nothing_is_missing.{S-type}
use Rattle.oss_missing_laws.proofs.laws.nothing_is_missing.Goals as goal

pub returns : goal.returns
returns g c = lemmas.nothing_is_missing (S-type g.row.S)
