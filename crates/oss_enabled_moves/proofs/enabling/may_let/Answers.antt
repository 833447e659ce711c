use Rattle.oss_enabled_moves.proofs.CallLemmas.{at_place, at_none}
use Rattle.oss_enabled_moves.specs.Enabled.{MayGive}
use Rattle.oss_enabled_moves.proofs.enabling.may_let.Goals as goal

pub returns-in-Some : goal.returns-in-Some
returns-in-Some c =
    at_place {F = λ held. MayGive held c.args.tree.now.tasks c.args.task.0 c.args.cell} c.args.tasks.now c.args.task.0 c.in-Some.held.now c.in-Some.ensures c.may_give.ensures
    (λ held is gives. record { held = held; is = is; gives = gives }) (λ may. (may.held, may.is, may.gives))

pub returns-in-None : goal.returns-in-None
returns-in-None c = at_none {F = λ held. MayGive held c.args.tree.now.tasks c.args.task.0 c.args.cell} c.args.tasks.now c.args.task.0 c.in-None.ensures (λ may. (may.held, may.is, may.gives))
