use Rattle.oss_labels.proofs.LabelLemmas.{bodies_begin_apart}
use Rattle.oss_labels.proofs.laws.bodies_begin_apart.Goals as goal

pub returns : goal.returns
returns c = bodies_begin_apart
