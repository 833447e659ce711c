use Rattle.oss_prior_laws.proofs.ExistLemmas as lemmas
use Rattle.oss_prior_laws.specs.contracts.laws.has_order.{S-type}
use Rattle.oss_prior_laws.proofs.laws.has_order.Goals as goal

pub returns : goal.returns
returns g c = lemmas.has_order (S-type g.row.S)
