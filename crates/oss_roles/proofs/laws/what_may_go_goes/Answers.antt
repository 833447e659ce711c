use Rattle.oss_roles.proofs.WordClaims as lemmas
use Rattle.oss_roles.specs.contracts.laws.what_may_go_goes.{S-type, J-type}
use Rattle.oss_roles.proofs.laws.what_may_go_goes.Goals as goal

pub returns : goal.returns
returns g c = lemmas.what_may_go_goes (S-type g.row.S g.row.J g.row.R) (J-type g.row.S g.row.J g.row.R) g.R.Jobs.is_job
