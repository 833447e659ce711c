use Rattle.oss_links.proofs.ClaimLemmas as lemmas
use Rattle.oss_links.proofs.laws.no_access_no_child.Goals as goal

pub returns : goal.returns
returns c = lemmas.no_access_no_child
