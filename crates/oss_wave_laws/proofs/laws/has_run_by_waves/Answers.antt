use Rattle.oss_wave_laws.proofs.ExistLemmas as lemmas
use Rattle.oss_wave_laws.specs.contracts.laws.has_run_by_waves.{S-type}
use Rattle.oss_wave_laws.proofs.laws.has_run_by_waves.Goals as goal

pub returns : goal.returns
returns g c = lemmas.has_run_by_waves (S-type g.row.S)
