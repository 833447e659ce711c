use Rattle.oss_access_lists.proofs.ClaimLemmas as lemmas
use Rattle.oss_access_lists.proofs.laws.quiet_is_at_rest.Goals as goal

pub returns : goal.returns
returns c = lemmas.quiet_is_at_rest
