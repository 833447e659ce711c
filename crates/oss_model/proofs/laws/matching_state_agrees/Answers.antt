use Rattle.oss_model.proofs.MatchingLemmas as lemmas
use Rattle.oss_model.specs.contracts.laws.matching_state_agrees.{S-type, L-type}
use Rattle.oss_model.proofs.laws.matching_state_agrees.Goals as goal

pub returns : goal.returns
returns g c = lemmas.matching_state_agrees (S-type g.row.S g.row.L) (L-type g.row.S g.row.L)
