use Rattle.oss_roles.proofs.DrawLaw as lemmas
use Rattle.oss_roles.specs.contracts.laws.nothing_is_drawn.{S-type}
use Rattle.oss_roles.proofs.laws.nothing_is_drawn.Goals as goal

pub returns : goal.returns
returns g c = lemmas.nothing_is_drawn (S-type g.row.S g.row.J g.row.R)
