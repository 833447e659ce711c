use Rattle.oss_chain_laws.proofs.ReadyLemmas as lemmas
use Rattle.oss_chain_laws.specs.contracts.laws.ready_is_all_given.{S-type}
use Rattle.oss_chain_laws.proofs.laws.ready_is_all_given.Goals as goal

pub returns : goal.returns
returns g c = lemmas.ready_is_all_given (S-type g.row.S)
