use Rattle.oss_model.proofs.Exclusive as lemmas
use Rattle.oss_model.specs.contracts.laws.every_main_is_a_setting.{S-type}
use Rattle.oss_model.proofs.laws.every_main_is_a_setting.Goals as goal

pub returns : goal.returns
returns g c = lemmas.every_main_is_a_setting (S-type g.row.S)
