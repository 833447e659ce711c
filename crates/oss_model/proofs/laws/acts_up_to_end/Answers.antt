use Rattle.oss_model.proofs.ResultTheorem as lemmas
use Rattle.oss_model.specs.contracts.laws.acts_up_to_end.{S-type}
use Rattle.oss_model.proofs.laws.acts_up_to_end.Goals as goal

pub returns : goal.returns
returns g c = lemmas.acts_up_to_end (S-type g.row.S)
