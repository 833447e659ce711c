use Rattle.oss_wave_laws.proofs.SumLemmas as lemmas
use Rattle.oss_wave_laws.specs.contracts.laws.weights_are_summed.{S-type}
use Rattle.oss_wave_laws.proofs.laws.weights_are_summed.Goals as goal

pub returns : goal.returns
returns g c = lemmas.weights_are_summed (S-type g.row.S)
