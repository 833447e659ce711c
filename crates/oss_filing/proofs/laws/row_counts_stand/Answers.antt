use Rattle.oss_filing.proofs.OpeningLaw as lemmas
use Rattle.oss_filing.specs.contracts.laws.row_counts_stand.{S-type}
use Rattle.oss_filing.proofs.laws.row_counts_stand.Goals as goal

pub returns : goal.returns
returns g c = lemmas.row_counts_stand (S-type g.row.S)
