use Rattle.oss_wave_laws.proofs.OneRunLemmas as lemmas
use Rattle.oss_wave_laws.specs.contracts.laws.one_run_by_waves.{S-type}
use Rattle.oss_wave_laws.proofs.laws.one_run_by_waves.Goals as goal

pub returns : goal.returns
returns g c = lemmas.one_run_by_waves (S-type g.row.S)
