use Rattle.oss_access_lists.proofs.ClaimLemmas as lemmas
use Rattle.oss_access_lists.proofs.laws.last_tells_of_all.Goals as goal

pub returns : goal.returns
returns c = lemmas.last_tells_of_all
