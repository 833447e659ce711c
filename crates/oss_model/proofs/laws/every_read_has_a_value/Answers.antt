use Rattle.oss_model.proofs.MarkLemmas as lemmas
use Rattle.oss_model.specs.contracts.laws.every_read_has_a_value.{S-type}
use Rattle.oss_model.proofs.laws.every_read_has_a_value.Goals as goal

pub returns : goal.returns
returns g c = lemmas.every_read_has_a_value (S-type g.row.S)
