use Rattle.oss_tree.proofs.RunLemmas as lemmas
use Rattle.oss_tree.specs.contracts.laws.output_is_output.{S-type}
use Rattle.oss_tree.proofs.laws.output_is_output.Goals as goal

pub returns : goal.returns
returns g c = lemmas.output_law (S-type g.row.S)
