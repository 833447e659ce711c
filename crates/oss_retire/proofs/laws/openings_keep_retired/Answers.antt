use Rattle.oss_retire.proofs.KeepLemmas as lemmas
use Rattle.oss_retire.proofs.laws.openings_keep_retired.Goals as goal

pub returns : goal.returns
returns c = λ s cell retired o ordered are can fresh. lemmas.openings_keep s cell o ordered can retired are fresh
