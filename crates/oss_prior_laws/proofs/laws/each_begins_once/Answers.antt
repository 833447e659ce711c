use Rattle.oss_prior_laws.proofs.BegunLemmas as lemmas
use Rattle.oss_prior_laws.specs.contracts.laws.each_begins_once.{S-type}
use Rattle.oss_prior_laws.proofs.laws.each_begins_once.Goals as goal

pub returns : goal.returns
returns g c = lemmas.each_begins_once (S-type g.row.S)
