use Rattle.oss_roles.proofs.WordClaims as lemmas
use Rattle.oss_roles.specs.contracts.laws.all_stand_at_home.{S-type, J-type}
use Rattle.oss_roles.proofs.laws.all_stand_at_home.Goals as goal

pub returns : goal.returns
returns g c = lemmas.all_stand_at_home (S-type g.row.S g.row.J g.row.R) (J-type g.row.S g.row.J g.row.R) g.R.Jobs.is_job
