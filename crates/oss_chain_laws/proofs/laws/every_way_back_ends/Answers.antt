use Rattle.oss_chain_laws.proofs.SettleLemmas as lemmas
use Rattle.oss_chain_laws.specs.contracts.laws.every_way_back_ends.{S-type}
use Rattle.oss_chain_laws.proofs.laws.every_way_back_ends.Goals as goal

pub returns : goal.returns
returns g c = lemmas.every_way_back_ends (S-type g.row.S)
