use Rattle.oss_rows.proofs.LastLaw as lemmas
use Rattle.oss_rows.specs.contracts.laws.told_are_last.{S-type}
use Rattle.oss_rows.proofs.laws.told_are_last.Goals as goal

pub returns : goal.returns
returns g c = lemmas.told_are_last (S-type g.row.S)
