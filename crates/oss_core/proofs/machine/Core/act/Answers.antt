use Rattle.std.proofs.Common.{subst, sym, true}
use Rattle.oss_model.specs.declared.moving.Move.TheVariants as moves
use Rattle.oss_core.specs.Acting.{HasActed}
use Rattle.oss_core.specs.Changes.{MayMove}
use Rattle.oss_core.specs.Cores.{kept_of}
use Rattle.oss_core.specs.Kept.{Kept}
use Rattle.oss_core.proofs.machine.Core.act.Goals as goal

pub act_now-requires-clause-may : goal.act_now-requires-clause-may
act_now-requires-clause-may g c = subst (λ (k : Kept). MayMove k (moves.Step c.args.task)) (sym c.may_move.ensures.same) (c.may_move.ensures.may.0 c.if-not-may_move.false)

pub returns : goal.returns
returns g c = subst (λ (k : Kept). HasActed true c.args.code.now c.args.task k (kept_of g.D.Deps.seen c.act_now.new.self)) c.may_move.ensures.same
    (subst (λ (k : Kept). MayMove k (moves.Step c.args.task)) (sym c.may_move.ensures.same) (c.may_move.ensures.may.0 c.if-not-may_move.false), c.in_ok-act_now.ensures.made, c.in_ok-act_now.ensures.alone)
