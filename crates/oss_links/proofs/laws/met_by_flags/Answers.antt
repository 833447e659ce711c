use Rattle.oss_links.proofs.ClaimLemmas as lemmas
use Rattle.oss_links.proofs.laws.met_by_flags.Goals as goal

pub returns : goal.returns
returns c = lemmas.met_by_flags
