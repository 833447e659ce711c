use Rattle.oss_access_lists.proofs.ClaimLemmas as lemmas
use Rattle.oss_access_lists.proofs.laws.due_is_so.Goals as goal

pub returns : goal.returns
returns c = lemmas.due_is_so
