use Rattle.oss_links.proofs.ClaimLemmas as lemmas
use Rattle.oss_links.proofs.laws.openings_hold.Goals as goal

pub returns : goal.returns
returns c = lemmas.openings_hold
