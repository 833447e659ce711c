use Rattle.oss_roles.proofs.WordClaims as lemmas
use Rattle.oss_roles.specs.contracts.laws.idle_fields_rest.{S-type, J-type}
use Rattle.oss_roles.proofs.laws.idle_fields_rest.Goals as goal

pub returns : goal.returns
returns g c = lemmas.idle_fields_rest (S-type g.row.S g.row.J g.row.R) (J-type g.row.S g.row.J g.row.R) g.R.Jobs.is_job
