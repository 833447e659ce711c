use Rattle.oss_links.proofs.ClaimLemmas as lemmas
use Rattle.oss_links.proofs.laws.openings_aside_hold.Goals as goal

pub returns : goal.returns
returns c = lemmas.openings_aside_hold
