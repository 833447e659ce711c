use Rattle.oss_prior_laws.proofs.TurnsLemmas as lemmas
use Rattle.oss_prior_laws.specs.contracts.laws.answer_is_the_result.{S-type}
use Rattle.oss_prior_laws.proofs.laws.answer_is_the_result.Goals as goal

pub returns : goal.returns
returns g c = lemmas.answer_is_the_result (S-type g.row.S)
