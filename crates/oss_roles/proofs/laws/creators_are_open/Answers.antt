use Rattle.oss_roles.proofs.WordClaims as lemmas
use Rattle.oss_roles.specs.contracts.laws.creators_are_open.{S-type, J-type}
use Rattle.oss_roles.proofs.laws.creators_are_open.Goals as goal

pub returns : goal.returns
returns g c = lemmas.creators_are_open (S-type g.row.S g.row.J g.row.R) (J-type g.row.S g.row.J g.row.R) g.R.Jobs.is_job
