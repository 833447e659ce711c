use Rattle.oss_missing_laws.proofs.AnswerLemmas as lemmas
use Rattle.oss_missing_laws.specs.contracts.laws.answers_are_one.{S-type}
use Rattle.oss_missing_laws.proofs.laws.answers_are_one.Goals as goal

pub returns : goal.returns
returns g c = lemmas.answers_are_one (S-type g.row.S)
