use Rattle.oss_missing_laws.proofs.MissingTheorem as lemmas
use Rattle.oss_missing_laws.specs.contracts.laws.runs_end_alike.{S-type}
use Rattle.oss_missing_laws.proofs.laws.runs_end_alike.Goals as goal

pub returns : goal.returns
returns g c = lemmas.runs_end_alike (S-type g.row.S)
