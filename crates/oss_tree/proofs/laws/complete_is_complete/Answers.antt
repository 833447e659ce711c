use Rattle.oss_tree.proofs.RunLemmas as lemmas
use Rattle.oss_tree.specs.contracts.laws.complete_is_complete.{S-type}
use Rattle.oss_tree.proofs.laws.complete_is_complete.Goals as goal

pub returns : goal.returns
returns g c = lemmas.complete_law (S-type g.row.S)
