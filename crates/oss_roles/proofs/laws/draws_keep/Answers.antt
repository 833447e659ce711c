use Rattle.oss_roles.proofs.DrawLaw as lemmas
use Rattle.oss_roles.specs.contracts.laws.draws_keep.{S-type}
use Rattle.oss_roles.proofs.laws.draws_keep.Goals as goal

pub returns : goal.returns
returns g c = lemmas.draws_keep (S-type g.row.S g.row.J g.row.R)
