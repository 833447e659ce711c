use Rattle.oss_enabled_moves.proofs.CallLemmas.{at_place, at_none}
use Rattle.oss_enabled_moves.specs.Enabled.{MayGoOn}
use Rattle.oss_enabled_moves.proofs.enabling.may_step.Goals as goal

pub returns-in-Some-clause-may : goal.returns-in-Some-clause-may
returns-in-Some-clause-may g c =
    at_place {F = λ held. MayGoOn held.body c.args.tree.now.tasks (g.D.Deps.seen c.args.deps.now) c.args.task.0} c.args.tasks.now c.args.task.0 c.in-Some.held.now c.in-Some.ensures c.may_go_on.ensures.may
    (λ held is goes. record { held = held; is = is; goes = goes }) (λ may. (may.held, may.is, may.goes))

pub returns-in-None-clause-may : goal.returns-in-None-clause-may
returns-in-None-clause-may g c = at_none {F = λ held. MayGoOn held.body c.args.tree.now.tasks (g.D.Deps.seen c.args.deps.now) c.args.task.0} c.args.tasks.now c.args.task.0 c.in-None.ensures (λ may. (may.held, may.is, may.goes))
