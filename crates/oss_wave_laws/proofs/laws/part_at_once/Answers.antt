use Rattle.oss_wave_laws.proofs.AtOnceLemmas as lemmas
use Rattle.oss_wave_laws.specs.contracts.laws.part_at_once.{S-type}
use Rattle.oss_wave_laws.proofs.laws.part_at_once.Goals as goal

pub returns : goal.returns
returns g c = lemmas.part_at_once (S-type g.row.S)
