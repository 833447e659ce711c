use Rattle.oss_needs.proofs.laws.mended_is_met.Goals as goal
use Rattle.oss_needs.proofs.MendedLemmas.{mended_met}

-- src/laws.rt:11:1
pub returns : goal.returns
returns c = mended_met
