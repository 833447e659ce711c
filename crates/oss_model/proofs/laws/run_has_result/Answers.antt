use Rattle.oss_model.proofs.TerminationTheorem as lemmas
use Rattle.oss_model.specs.contracts.laws.run_has_result.{S-type}
use Rattle.oss_model.proofs.laws.run_has_result.Goals as goal

pub returns : goal.returns
returns g c = lemmas.run_has_result (S-type g.row.S)
