use Rattle.oss_roles.proofs.DrawLaw as lemmas
use Rattle.oss_roles.specs.contracts.laws.plans_draw.{S-type}
use Rattle.oss_roles.proofs.laws.plans_draw.Goals as goal

pub returns : goal.returns
returns g c = lemmas.plans_draw (S-type g.row.S g.row.J g.row.R)
