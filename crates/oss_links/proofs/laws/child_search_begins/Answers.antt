use Rattle.oss_links.proofs.ClaimLemmas as lemmas
use Rattle.oss_links.proofs.laws.child_search_begins.Goals as goal

pub returns : goal.returns
returns c = lemmas.child_search_begins
