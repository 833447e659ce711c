use Rattle.oss_wave_laws.proofs.FallLemmas as lemmas
use Rattle.oss_wave_laws.specs.contracts.laws.round_falls.{S-type}
use Rattle.oss_wave_laws.proofs.laws.round_falls.Goals as goal

pub returns : goal.returns
returns g c = lemmas.round_falls (S-type g.row.S)
