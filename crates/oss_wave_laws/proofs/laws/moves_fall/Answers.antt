use Rattle.oss_wave_laws.proofs.LeftLemmas as lemmas
use Rattle.oss_wave_laws.specs.contracts.laws.moves_fall.{S-type}
use Rattle.oss_wave_laws.proofs.laws.moves_fall.Goals as goal

pub returns : goal.returns
returns g c = lemmas.moves_fall (S-type g.row.S)
