use Rattle.oss_links.proofs.ClaimLemmas as lemmas
use Rattle.oss_links.proofs.laws.last_child_tells.Goals as goal

pub returns : goal.returns
returns c = lemmas.last_child_tells
