use Rattle.oss_filing.proofs.OpeningLaw as lemmas
use Rattle.oss_filing.specs.contracts.laws.filed_rows_stand.{S-type}
use Rattle.oss_filing.proofs.laws.filed_rows_stand.Goals as goal

pub returns : goal.returns
returns g c = lemmas.filed_rows_stand (S-type g.row.S)
