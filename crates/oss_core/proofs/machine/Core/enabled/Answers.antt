use Rattle.oss_core.proofs.MakingLemmas.{enabled_is}
use Rattle.oss_core.proofs.machine.Core.enabled.Goals as goal

pub returns-clause-enabled : goal.returns-clause-enabled
returns-clause-enabled g c = λ code main first s core. enabled_is core c.args.m.now c.may_move.result c.may_move.ensures.may
