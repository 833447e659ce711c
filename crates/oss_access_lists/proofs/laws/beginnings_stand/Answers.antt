use Rattle.oss_access_lists.proofs.ClaimLemmas as lemmas
use Rattle.oss_access_lists.proofs.laws.beginnings_stand.Goals as goal

pub returns : goal.returns
returns c = lemmas.beginnings_stand
