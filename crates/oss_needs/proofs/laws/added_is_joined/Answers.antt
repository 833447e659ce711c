use Rattle.oss_needs.proofs.laws.added_is_joined.Goals as goal
use Rattle.oss_needs.proofs.JoinedLemmas.{added}

pub returns : goal.returns
returns c = added
