use Rattle.oss_links.proofs.ClaimLemmas as lemmas
use Rattle.oss_links.proofs.laws.main_is_met.Goals as goal

pub returns : goal.returns
returns c = lemmas.main_is_met
