use Rattle.oss_wave_laws.proofs.LeftLemmas as lemmas
use Rattle.oss_wave_laws.specs.contracts.laws.every_run_is_finite.{S-type}
use Rattle.oss_wave_laws.proofs.laws.every_run_is_finite.Goals as goal

pub returns : goal.returns
returns g c = lemmas.every_run_is_finite (S-type g.row.S)
