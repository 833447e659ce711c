use Rattle.oss_wave_laws.proofs.MovesLemmas as lemmas
use Rattle.oss_wave_laws.specs.contracts.laws.wave_moves.{S-type}
use Rattle.oss_wave_laws.proofs.laws.wave_moves.Goals as goal

pub returns : goal.returns
returns g c = lemmas.wave_moves (S-type g.row.S)
