use Rattle.oss_model.proofs.ResultTheorem as lemmas
use Rattle.oss_model.specs.contracts.laws.answers_are_one.{S-type}
use Rattle.oss_model.proofs.laws.answers_are_one.Goals as goal

pub returns : goal.returns
returns g c = lemmas.answers_are_one (S-type g.row.S)
