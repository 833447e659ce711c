use Rattle.oss_roles.proofs.WordClaims as lemmas
use Rattle.oss_roles.specs.contracts.laws.count_reads_keep.{S-type, J-type}
use Rattle.oss_roles.proofs.laws.count_reads_keep.Goals as goal

pub returns : goal.returns
returns g c = lemmas.count_reads_keep (S-type g.row.S g.row.J g.row.R) (J-type g.row.S g.row.J g.row.R) g.R.Jobs.is_job
