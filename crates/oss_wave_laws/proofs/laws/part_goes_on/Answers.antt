use Rattle.oss_wave_laws.proofs.PartTheorem as lemmas
use Rattle.oss_wave_laws.specs.contracts.laws.part_goes_on.{S-type}
use Rattle.oss_wave_laws.proofs.laws.part_goes_on.Goals as goal

pub returns : goal.returns
returns g c = lemmas.part_goes_on (S-type g.row.S)
