use Rattle.oss_missing_laws.proofs.MissingTheorem as lemmas
use Rattle.oss_missing_laws.specs.contracts.laws.nothing_is_wrong.{S-type}
use Rattle.oss_missing_laws.proofs.laws.nothing_is_wrong.Goals as goal

pub returns : goal.returns
returns g c = lemmas.nothing_is_wrong (S-type g.row.S)
