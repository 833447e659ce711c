use Rattle.oss_model.proofs.MatchingLemmas as lemmas
use Rattle.oss_model.specs.contracts.laws.matching_forests_agree.{K-type, L-type}
use Rattle.oss_model.proofs.laws.matching_forests_agree.Goals as goal

pub returns : goal.returns
returns g c = lemmas.matching_forests_agree (K-type g.row.K g.row.L) (L-type g.row.K g.row.L)
