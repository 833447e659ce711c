use Rattle.oss_needs.proofs.laws.fewer_are_not_met.Goals as goal
use Rattle.oss_needs.proofs.FewerLemmas.{fewer}

-- src/laws.rt:16:1
pub returns : goal.returns
returns c = fewer
