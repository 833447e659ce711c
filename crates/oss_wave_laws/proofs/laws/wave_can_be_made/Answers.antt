use Rattle.oss_wave_laws.proofs.WaveLemmas as lemmas
use Rattle.oss_wave_laws.specs.contracts.laws.wave_can_be_made.{S-type}
use Rattle.oss_wave_laws.proofs.laws.wave_can_be_made.Goals as goal

pub returns : goal.returns
returns g c = lemmas.wave_can_be_made (S-type g.row.S)
