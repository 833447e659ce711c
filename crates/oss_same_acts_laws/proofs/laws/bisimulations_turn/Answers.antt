use Rattle.oss_same_acts_laws.proofs.ClaimLemmas as lemmas
use Rattle.oss_same_acts_laws.specs.contracts.laws.bisimulations_turn.{S-type, T-type}
use Rattle.oss_same_acts_laws.proofs.laws.bisimulations_turn.Goals as goal

pub returns : goal.returns
returns g c = lemmas.bisimulations_turn (S-type g.row.S g.row.T) (T-type g.row.S g.row.T)
