use Rattle.oss_same_acts_laws.proofs.ClaimLemmas as lemmas
use Rattle.oss_same_acts_laws.specs.contracts.laws.tasks_have_partners.{S-type, T-type}
use Rattle.oss_same_acts_laws.proofs.laws.tasks_have_partners.Goals as goal

pub returns : goal.returns
returns g c = lemmas.tasks_have_partners (S-type g.row.S g.row.T) (T-type g.row.S g.row.T)
