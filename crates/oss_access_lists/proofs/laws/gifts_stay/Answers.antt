use Rattle.oss_access_lists.proofs.ClaimLemmas as lemmas
use Rattle.oss_access_lists.proofs.laws.gifts_stay.Goals as goal

pub returns : goal.returns
returns c = lemmas.gifts_stay
