use Rattle.oss_retire.proofs.LeftLemmas.{left_ordered}
use Rattle.oss_retire.proofs.laws.left_are_ordered.Goals as goal

pub returns : goal.returns
returns c = λ opens retired ordered. left_ordered retired ordered
