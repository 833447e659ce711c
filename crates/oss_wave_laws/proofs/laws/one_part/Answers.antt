use Rattle.oss_wave_laws.proofs.PartLemmas as lemmas
use Rattle.oss_wave_laws.specs.contracts.laws.one_part.{S-type}
use Rattle.oss_wave_laws.proofs.laws.one_part.Goals as goal

pub returns : goal.returns
returns g c = lemmas.one_part (S-type g.row.S)
