use Rattle.oss_explanation.proofs.OneLemmas.{one_deed}
use Rattle.oss_explanation.proofs.laws.an_ask_is_told_in_one_way.Goals as goal

pub returns : goal.returns
returns g c = λ all ask d e a b. one_deed all ask d e a b
