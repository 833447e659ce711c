use Rattle.oss_missing_laws.proofs.ExactTheorem as lemmas
use Rattle.oss_missing_laws.specs.contracts.laws.missing_exactly.{S-type}
use Rattle.oss_missing_laws.proofs.laws.missing_exactly.Goals as goal

pub returns : goal.returns
returns g c = lemmas.missing_exactly (S-type g.row.S)
