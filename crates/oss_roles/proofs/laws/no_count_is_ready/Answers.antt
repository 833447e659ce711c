use Rattle.oss_roles.proofs.WordClaims as lemmas
use Rattle.oss_roles.specs.contracts.laws.no_count_is_ready.{S-type, J-type}
use Rattle.oss_roles.proofs.laws.no_count_is_ready.Goals as goal

pub returns : goal.returns
returns g c = lemmas.no_count_is_ready (S-type g.row.S g.row.J g.row.R) (J-type g.row.S g.row.J g.row.R) g.R.Jobs.is_job
