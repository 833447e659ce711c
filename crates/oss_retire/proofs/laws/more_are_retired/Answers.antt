use Rattle.oss_retire.proofs.MoreLemmas as lemmas
use Rattle.oss_retire.proofs.laws.more_are_retired.Goals as goal

pub returns : goal.returns
returns c = λ opens given cell retired more are then_. (lemmas.more_are_retired opens given cell retired more are then_, lemmas.all_twice retired more opens)
