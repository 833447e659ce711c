use Rattle.oss_links.proofs.ClaimLemmas as lemmas
use Rattle.oss_links.proofs.laws.tables_give.Goals as goal

pub returns : goal.returns
returns c = lemmas.tables_give
