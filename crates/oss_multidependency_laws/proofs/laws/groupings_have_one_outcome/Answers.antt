use Rattle.oss_multidependency_laws.proofs.GroupingLemmas.{groupings_have_one_outcome}
use Rattle.oss_multidependency_laws.specs.contracts.laws.groupings_have_one_outcome.{S-type}
use Rattle.oss_multidependency_laws.proofs.laws.groupings_have_one_outcome.Goals as goal

pub returns : goal.returns
returns g c = groupings_have_one_outcome (S-type g.row.S)
