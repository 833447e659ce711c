use Rattle.oss_retire.proofs.DoneLemmas as lemmas
use Rattle.oss_retire.proofs.laws.done_may_retire.Goals as goal

pub returns : goal.returns
returns c = λ opens given cell retired ordered is. lemmas.done_may_retire opens given cell ordered retired is
