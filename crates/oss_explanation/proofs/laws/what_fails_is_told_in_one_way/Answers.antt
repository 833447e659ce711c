use Rattle.oss_explanation.proofs.OneLemmas.{one_failing}
use Rattle.oss_explanation.proofs.laws.what_fails_is_told_in_one_way.Goals as goal

pub returns : goal.returns
returns c = λ all test f g a b. one_failing all test f g a b
