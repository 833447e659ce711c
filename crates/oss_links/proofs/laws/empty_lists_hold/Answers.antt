use Rattle.oss_links.proofs.ClaimLemmas as lemmas
use Rattle.oss_links.proofs.laws.empty_lists_hold.Goals as goal

pub returns : goal.returns
returns c = lemmas.empty_lists_hold
