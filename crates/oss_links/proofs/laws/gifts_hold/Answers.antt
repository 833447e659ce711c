use Rattle.oss_links.proofs.ClaimLemmas as lemmas
use Rattle.oss_links.proofs.laws.gifts_hold.Goals as goal

pub returns : goal.returns
returns c = lemmas.gifts_hold
