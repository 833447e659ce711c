use Rattle.oss_roles.proofs.WordClaims as lemmas
use Rattle.oss_roles.specs.contracts.laws.last_children_are_last.{S-type, J-type}
use Rattle.oss_roles.proofs.laws.last_children_are_last.Goals as goal

pub returns : goal.returns
returns g c = lemmas.last_children_are_last (S-type g.row.S g.row.J g.row.R) (J-type g.row.S g.row.J g.row.R) g.R.Jobs.is_job
