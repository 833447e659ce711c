use Rattle.oss_model.proofs.TerminationTheorem as lemmas
use Rattle.oss_model.specs.contracts.laws.run_ends.{S-type}
use Rattle.oss_model.proofs.laws.run_ends.Goals as goal

pub returns : goal.returns
returns g c = lemmas.run_ends (S-type g.row.S)
