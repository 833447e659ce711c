use Rattle.oss_roles.proofs.WordClaims as lemmas
use Rattle.oss_roles.specs.contracts.laws.new_paths_are_free.{S-type, J-type}
use Rattle.oss_roles.proofs.laws.new_paths_are_free.Goals as goal

pub returns : goal.returns
returns g c = lemmas.new_paths_are_free (S-type g.row.S g.row.J g.row.R) (J-type g.row.S g.row.J g.row.R) g.R.Jobs.is_job
