use Rattle.oss_core.proofs.FallLemmas as lemmas
use Rattle.oss_core.proofs.laws.core_moves_fall.Goals as goal

pub returns : goal.returns
returns c = lemmas.core_moves_fall
