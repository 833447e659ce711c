use Rattle.oss_wave_laws.proofs.WaveTheorem as lemmas
use Rattle.oss_wave_laws.specs.contracts.laws.wave_goes_on.{S-type}
use Rattle.oss_wave_laws.proofs.laws.wave_goes_on.Goals as goal

pub returns : goal.returns
returns g c = lemmas.wave_goes_on (S-type g.row.S)
