use Rattle.oss_links.proofs.ClaimLemmas as lemmas
use Rattle.oss_links.proofs.laws.new_tables_hold.Goals as goal

pub returns : goal.returns
returns c = lemmas.new_tables_hold
