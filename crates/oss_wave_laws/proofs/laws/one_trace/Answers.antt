use Rattle.oss_wave_laws.proofs.OneRunLemmas as lemmas
use Rattle.oss_wave_laws.specs.contracts.laws.one_trace.{S-type}
use Rattle.oss_wave_laws.proofs.laws.one_trace.Goals as goal

pub returns : goal.returns
returns g c = lemmas.one_trace (S-type g.row.S)
