use Rattle.oss_links.proofs.ClaimLemmas as lemmas
use Rattle.oss_links.proofs.laws.flags_tell.Goals as goal

pub returns : goal.returns
returns c = lemmas.flags_tell
