use Rattle.oss_explanation.proofs.OneLemmas.{one_held}
use Rattle.oss_explanation.proofs.laws.what_is_held_is_told_in_one_way.Goals as goal

pub returns : goal.returns
returns c = λ all words ws hs gs a b. one_held all words ws hs gs a b
