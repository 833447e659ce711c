use Rattle.oss_tree.proofs.RunLemmas as lemmas
use Rattle.oss_tree.specs.contracts.laws.least_is_least.{S-type}
use Rattle.oss_tree.proofs.laws.least_is_least.Goals as goal

pub returns : goal.returns
returns g c = lemmas.least_law (S-type g.row.S)
