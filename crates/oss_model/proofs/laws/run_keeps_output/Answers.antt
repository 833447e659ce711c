use Rattle.oss_model.proofs.ResultTheorem as lemmas
use Rattle.oss_model.specs.contracts.laws.run_keeps_output.{S-type}
use Rattle.oss_model.proofs.laws.run_keeps_output.Goals as goal

pub returns : goal.returns
returns g c = lemmas.run_keeps_output (S-type g.row.S)
