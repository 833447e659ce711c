use Rattle.oss_explain_laws.proofs.OneEnding.{endings_are_one}
use Rattle.oss_explain_laws.specs.contracts.laws.endings_are_one.{S-type}
use Rattle.oss_explain_laws.proofs.laws.endings_are_one.Goals as goal

pub returns : goal.returns
returns g c = endings_are_one (S-type g.row.S)
