use Rattle.oss_wave_laws.proofs.MovesLemmas as lemmas
use Rattle.oss_wave_laws.specs.contracts.laws.pass_moves.{S-type}
use Rattle.oss_wave_laws.proofs.laws.pass_moves.Goals as goal

pub returns : goal.returns
returns g c = lemmas.pass_moves (S-type g.row.S)
