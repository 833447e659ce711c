use Rattle.oss_needs.proofs.laws.lacks_are_told.Goals as goal
use Rattle.oss_needs.proofs.MendedLemmas.{told}

-- src/laws.rt:6:1
pub returns : goal.returns
returns c = told
