use Rattle.oss_model.proofs.ResultTheorem as lemmas
use Rattle.oss_model.specs.contracts.laws.every_answer_is_the_result.{S-type}
use Rattle.oss_model.proofs.laws.every_answer_is_the_result.Goals as goal

pub returns : goal.returns
returns g c = lemmas.every_answer_is_the_result (S-type g.row.S)
