use Rattle.oss_wave_laws.proofs.PartTheorem as lemmas
use Rattle.oss_wave_laws.specs.contracts.laws.part_follows.{S-type}
use Rattle.oss_wave_laws.proofs.laws.part_follows.Goals as goal

pub returns : goal.returns
returns g c = lemmas.part_follows (S-type g.row.S)
