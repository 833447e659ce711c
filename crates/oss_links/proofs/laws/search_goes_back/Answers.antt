use Rattle.oss_links.proofs.ClaimLemmas as lemmas
use Rattle.oss_links.proofs.laws.search_goes_back.Goals as goal

pub returns : goal.returns
returns c = lemmas.search_goes_back
