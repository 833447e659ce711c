use Rattle.oss_wave_laws.proofs.WaveTheorem as lemmas
use Rattle.oss_wave_laws.specs.contracts.laws.wave_begins.{S-type}
use Rattle.oss_wave_laws.proofs.laws.wave_begins.Goals as goal

pub returns : goal.returns
returns g c = lemmas.wave_begins (S-type g.row.S)
