use Rattle.oss_retire.proofs.KeepLemmas as lemmas
use Rattle.oss_retire.proofs.laws.none_are_retired.Goals as goal

pub returns : goal.returns
returns c = lemmas.none_are_retired
