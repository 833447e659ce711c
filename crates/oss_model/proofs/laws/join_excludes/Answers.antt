use Rattle.oss_model.proofs.Exclusive as lemmas
use Rattle.oss_model.specs.contracts.laws.join_excludes.{S-type}
use Rattle.oss_model.proofs.laws.join_excludes.Goals as goal

pub returns : goal.returns
returns g c = lemmas.join_excludes (S-type g.row.S)
