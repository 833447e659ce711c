use Rattle.oss_links.proofs.ClaimLemmas as lemmas
use Rattle.oss_links.proofs.laws.givers_are_held.Goals as goal

pub returns : goal.returns
returns c = lemmas.givers_are_held
