use Rattle.oss_roles.proofs.WordClaims as lemmas
use Rattle.oss_roles.specs.contracts.laws.tasks_have_one_maker.{S-type, J-type}
use Rattle.oss_roles.proofs.laws.tasks_have_one_maker.Goals as goal

pub returns : goal.returns
returns g c = lemmas.tasks_have_one_maker (S-type g.row.S g.row.J g.row.R) (J-type g.row.S g.row.J g.row.R) g.R.Jobs.is_job
