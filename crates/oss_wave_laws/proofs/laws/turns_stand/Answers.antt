use Rattle.oss_wave_laws.proofs.WaveLemmas as lemmas
use Rattle.oss_wave_laws.specs.contracts.laws.turns_stand.{S-type}
use Rattle.oss_wave_laws.proofs.laws.turns_stand.Goals as goal

pub returns : goal.returns
returns g c = lemmas.turns_stand (S-type g.row.S)
