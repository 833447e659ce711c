use Rattle.oss_retire.proofs.TellLemmas as lemmas
use Rattle.oss_retire.proofs.laws.left_tell.Goals as goal

pub returns : goal.returns
returns c = λ opens given cell retired t marks are kept tell. lemmas.left_tell opens given cell retired are t marks kept tell
