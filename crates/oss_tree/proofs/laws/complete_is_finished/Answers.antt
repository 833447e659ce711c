use Rattle.oss_tree.proofs.RunLemmas as lemmas
use Rattle.oss_tree.specs.contracts.laws.complete_is_finished.{S-type}
use Rattle.oss_tree.proofs.laws.complete_is_finished.Goals as goal

pub returns : goal.returns
returns g c = lemmas.finished_law (S-type g.row.S)
