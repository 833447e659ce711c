use Rattle.std.proofs.Common.{refl, subst}
use Rattle.oss_core.specs.Cores.{kept_of}
use Rattle.oss_core.specs.Kept.{Kept}
use Rattle.oss_core.proofs.CallLemmas.{on_ok}
use Rattle.oss_wakeups.specs.Asides.{CanAct, rests}
use Rattle.oss_wakeups.specs.Watches.{HasRested}
use Rattle.oss_wakeups.proofs.AsideLemmas.{cannot}
use Rattle.oss_wakeups.proofs.watch.Watch.set_one_aside.Goals as goal

pub returns-clause-aside : goal.returns-clause-aside
returns-clause-aside g c =
    on_ok c.rest_one.result
    (λ r. rests (cannot (CanAct (kept_of g.D.Deps.seen c.args.core.now) c.args.task.0) c.enabled.result c.enabled.ensures.may c.if-enabled.false) refl
    (subst (λ (k : Kept). HasRested k c.args.task c.args.self.now c.rest_one.new.self) c.enabled.ensures.same r)) c.rest_one.ensures.rested
