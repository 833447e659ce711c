use Rattle.oss_links.proofs.ClaimLemmas as lemmas
use Rattle.oss_links.proofs.laws.search_ends.Goals as goal

pub returns : goal.returns
returns c = lemmas.search_ends
