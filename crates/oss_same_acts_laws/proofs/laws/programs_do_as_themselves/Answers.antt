use Rattle.oss_same_acts_laws.proofs.ClaimLemmas as lemmas
use Rattle.oss_same_acts_laws.specs.contracts.laws.programs_do_as_themselves.{S-type}
use Rattle.oss_same_acts_laws.proofs.laws.programs_do_as_themselves.Goals as goal

pub returns : goal.returns
returns g c = lemmas.programs_do_as_themselves (S-type g.row.S)
