use Rattle.oss_wave_laws.proofs.MovesLemmas as lemmas
use Rattle.oss_wave_laws.specs.contracts.laws.result_is_the_answer.{S-type}
use Rattle.oss_wave_laws.proofs.laws.result_is_the_answer.Goals as goal

pub returns : goal.returns
returns g c = lemmas.result_is_the_answer (S-type g.row.S)
