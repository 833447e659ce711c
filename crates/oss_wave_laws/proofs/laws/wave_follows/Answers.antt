use Rattle.oss_wave_laws.proofs.PartTheorem as lemmas
use Rattle.oss_wave_laws.specs.contracts.laws.wave_follows.{S-type}
use Rattle.oss_wave_laws.proofs.laws.wave_follows.Goals as goal

pub returns : goal.returns
returns g c = lemmas.wave_follows (S-type g.row.S)
