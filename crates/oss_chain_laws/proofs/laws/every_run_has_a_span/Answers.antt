use Rattle.oss_chain_laws.proofs.LongestTheorem as lemmas
use Rattle.oss_chain_laws.specs.contracts.laws.every_run_has_a_span.{S-type}
use Rattle.oss_chain_laws.proofs.laws.every_run_has_a_span.Goals as goal

pub returns : goal.returns
returns g c = lemmas.every_run_has_a_span (S-type g.row.S)
