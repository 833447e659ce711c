use Rattle.oss_access_lists.proofs.ClaimLemmas as lemmas
use Rattle.oss_access_lists.proofs.laws.openings_keep.Goals as goal

pub returns : goal.returns
returns c = lemmas.openings_keep
