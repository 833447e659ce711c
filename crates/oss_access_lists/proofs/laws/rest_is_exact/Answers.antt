use Rattle.oss_access_lists.proofs.ClaimLemmas as lemmas
use Rattle.oss_access_lists.proofs.laws.rest_is_exact.Goals as goal

pub returns : goal.returns
returns c = lemmas.rest_is_exact
