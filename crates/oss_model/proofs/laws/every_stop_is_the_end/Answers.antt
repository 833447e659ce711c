use Rattle.oss_model.proofs.AnswerTheorem as lemmas
use Rattle.oss_model.specs.contracts.laws.every_stop_is_the_end.{S-type}
use Rattle.oss_model.proofs.laws.every_stop_is_the_end.Goals as goal

pub returns : goal.returns
returns g c = lemmas.every_stop_is_the_end (S-type g.row.S)
