use Rattle.oss_links.proofs.ClaimLemmas as lemmas
use Rattle.oss_links.proofs.laws.ways_are_tasks.Goals as goal

pub returns : goal.returns
returns c = lemmas.ways_are_tasks
