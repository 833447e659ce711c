use Rattle.oss_roles.proofs.NumberLaw as lemmas
use Rattle.oss_roles.specs.contracts.laws.entries_follow.{S-type, J-type}
use Rattle.oss_roles.proofs.laws.entries_follow.Goals as goal

pub returns : goal.returns
returns g c = lemmas.entries_follow (S-type g.row.S g.row.J g.row.R) (J-type g.row.S g.row.J g.row.R) g.R.Jobs.is_job
