use Rattle.oss_retire.proofs.KeepLemmas as lemmas
use Rattle.oss_retire.proofs.laws.gifts_keep_retired.Goals as goal

pub returns : goal.returns
returns c = λ opens given later cell retired are more. lemmas.gifts_keep opens given later cell more retired are
