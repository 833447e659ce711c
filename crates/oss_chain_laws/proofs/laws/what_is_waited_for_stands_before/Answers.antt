use Rattle.oss_chain_laws.proofs.SettleLemmas as lemmas
use Rattle.oss_chain_laws.specs.contracts.laws.what_is_waited_for_stands_before.{S-type}
use Rattle.oss_chain_laws.proofs.laws.what_is_waited_for_stands_before.Goals as goal

pub returns : goal.returns
returns g c = lemmas.what_is_waited_for_stands_before (S-type g.row.S)
