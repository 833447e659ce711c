use Rattle.oss_prior_laws.proofs.OneOrderLemmas as lemmas
use Rattle.oss_prior_laws.specs.contracts.laws.one_run_by_turns.{S-type}
use Rattle.oss_prior_laws.proofs.laws.one_run_by_turns.Goals as goal

pub returns : goal.returns
returns g c = lemmas.one_run_by_turns (S-type g.row.S)
