use Rattle.oss_roles.proofs.DrawLaw as lemmas
use Rattle.oss_roles.specs.contracts.laws.new_seats_draw.{S-type}
use Rattle.oss_roles.proofs.laws.new_seats_draw.Goals as goal

pub returns : goal.returns
returns g c = lemmas.new_seats_draw (S-type g.row.S g.row.J g.row.R)
