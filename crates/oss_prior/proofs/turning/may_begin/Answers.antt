use Rattle.oss_core.specs.Cores.{kept_of}
use Rattle.oss_prior.proofs.TurnLemmas.{may_begin}
use Rattle.oss_prior.proofs.turning.may_begin.Goals as goal

pub returns-clause-may : goal.returns-clause-may
returns-clause-may g c = may_begin c.args.task.0 (kept_of g.D.Deps.seen c.args.core.now) c.begun.result c.enabled.result c.if-begun.false c.begun.ensures c.enabled.ensures.may
