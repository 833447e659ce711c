use Rattle.oss_wave_laws.proofs.MovesLemmas as lemmas
use Rattle.oss_wave_laws.specs.contracts.laws.runs_go_on.{S-type}
use Rattle.oss_wave_laws.proofs.laws.runs_go_on.Goals as goal

pub returns : goal.returns
returns g c = lemmas.runs_go_on (S-type g.row.S)
