use Rattle.oss_prior_laws.proofs.OneOrderLemmas as lemmas
use Rattle.oss_prior_laws.specs.contracts.laws.one_order.{S-type}
use Rattle.oss_prior_laws.proofs.laws.one_order.Goals as goal

pub returns : goal.returns
returns g c = lemmas.one_order (S-type g.row.S)
