use Rattle.oss_wave_laws.proofs.MovesLemmas as lemmas
use Rattle.oss_wave_laws.specs.contracts.laws.rounds_stop.{S-type}
use Rattle.oss_wave_laws.proofs.laws.rounds_stop.Goals as goal

pub returns : goal.returns
returns g c = lemmas.rounds_stop (S-type g.row.S)
