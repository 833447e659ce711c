use Rattle.oss_retire.proofs.TellLemmas as lemmas
use Rattle.oss_retire.proofs.laws.children_by_left.Goals as goal

pub returns : goal.returns
returns c = λ opens given cell retired t are. lemmas.children_by_left opens given cell retired are t
