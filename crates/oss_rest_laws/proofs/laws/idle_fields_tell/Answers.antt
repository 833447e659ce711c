use Rattle.oss_rest_laws.proofs.RestedLaw as lemmas
use Rattle.oss_rest_laws.specs.contracts.laws.idle_fields_tell.{S-type, J-type}
use Rattle.oss_rest_laws.proofs.laws.idle_fields_tell.Goals as goal

pub returns : goal.returns
returns g c = lemmas.idle_fields_tell (S-type g.row.S g.row.J g.row.R) (J-type g.row.S g.row.J g.row.R) g.R.Jobs.is_job
