use Rattle.oss_core.proofs.UnfinishedLemmas.{unfinished_is}
use Rattle.oss_core.proofs.machine.Core.unfinished.Goals as goal

pub returns : goal.returns
returns g c = λ code main first s core. unfinished_is core c.unfinished_in.result c.unfinished_in.ensures
