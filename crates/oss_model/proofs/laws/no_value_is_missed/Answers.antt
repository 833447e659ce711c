use Rattle.oss_model.proofs.MarkLemmas as lemmas
use Rattle.oss_model.specs.contracts.laws.no_value_is_missed.{S-type}
use Rattle.oss_model.proofs.laws.no_value_is_missed.Goals as goal

pub returns : goal.returns
returns g c = lemmas.no_value_is_missed (S-type g.row.S)
