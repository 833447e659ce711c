use Rattle.oss_prior_laws.proofs.TurnsLemmas as lemmas
use Rattle.oss_prior_laws.specs.contracts.laws.turns_stop.{S-type}
use Rattle.oss_prior_laws.proofs.laws.turns_stop.Goals as goal

pub returns : goal.returns
returns g c = lemmas.turns_stop (S-type g.row.S)
