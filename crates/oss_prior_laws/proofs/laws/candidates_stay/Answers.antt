use Rattle.oss_prior_laws.proofs.CandidateLemmas as lemmas
use Rattle.oss_prior_laws.specs.contracts.laws.candidates_stay.{S-type}
use Rattle.oss_prior_laws.proofs.laws.candidates_stay.Goals as goal

pub returns : goal.returns
returns g c = lemmas.candidates_stay (S-type g.row.S)
