use Rattle.oss_model.proofs.Exclusive as lemmas
use Rattle.oss_model.specs.contracts.laws.steps_exclude.{S-type}
use Rattle.oss_model.proofs.laws.steps_exclude.Goals as goal

pub returns : goal.returns
returns g c = lemmas.steps_exclude (S-type g.row.S)
