use Rattle.oss_model.proofs.ResultTheorem as lemmas
use Rattle.oss_model.specs.contracts.laws.every_result_is_the_answer.{S-type}
use Rattle.oss_model.proofs.laws.every_result_is_the_answer.Goals as goal

pub returns : goal.returns
returns g c = lemmas.every_result_is_the_answer (S-type g.row.S)
