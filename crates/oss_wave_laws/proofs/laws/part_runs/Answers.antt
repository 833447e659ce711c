use Rattle.oss_wave_laws.proofs.PartLemmas as lemmas
use Rattle.oss_wave_laws.specs.contracts.laws.part_runs.{S-type}
use Rattle.oss_wave_laws.proofs.laws.part_runs.Goals as goal

pub returns : goal.returns
returns g c = lemmas.part_runs (S-type g.row.S)
