use Rattle.oss_filing.proofs.OpeningLaw as lemmas
use Rattle.oss_filing.specs.contracts.laws.filed_rows_rest.{S-type, J-type}
use Rattle.oss_filing.proofs.laws.filed_rows_rest.Goals as goal

pub returns : goal.returns
returns g c = lemmas.filed_rows_rest (S-type g.row.S g.row.J g.row.R) (J-type g.row.S g.row.J g.row.R) g.R.Jobs.is_job
