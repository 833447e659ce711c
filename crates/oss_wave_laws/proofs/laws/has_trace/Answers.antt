use Rattle.oss_wave_laws.proofs.ExistLemmas as lemmas
use Rattle.oss_wave_laws.specs.contracts.laws.has_trace.{S-type}
use Rattle.oss_wave_laws.proofs.laws.has_trace.Goals as goal

pub returns : goal.returns
returns g c = lemmas.has_trace (S-type g.row.S)
