use Rattle.oss_same_acts_laws.proofs.ClaimLemmas as lemmas
use Rattle.oss_same_acts_laws.specs.contracts.laws.lets_are_alike.{S-type, T-type}
use Rattle.oss_same_acts_laws.proofs.laws.lets_are_alike.Goals as goal

pub returns : goal.returns
returns g c = lemmas.lets_are_alike (S-type g.row.S g.row.T) (T-type g.row.S g.row.T)
