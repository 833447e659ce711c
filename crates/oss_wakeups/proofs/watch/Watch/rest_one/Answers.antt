use Rattle.std.proofs.Common.{◌<◌, ℕ, refl, subst, sym}
use Rattle.oss_core.specs.Cores.{kept_of}
use Rattle.oss_wakeups.specs.Watches.{sleeps, stays}
use Rattle.oss_wakeups.proofs.KeptLemmas.{hindered_there}
use Rattle.oss_wakeups.proofs.RestLemmas.{not_spent}
use Rattle.oss_wakeups.proofs.watch.Watch.rest_one.Goals as goal

pub send_to_sleep-requires-clause-other : goal.send_to_sleep-requires-clause-other
send_to_sleep-requires-clause-other g c = subst (λ (n : ℕ). c.in-Some.other.0 < n) (sym c.requires.watchers) (hindered_there c.requires.running.1 c.args.task.0 c.in-Some.other.0 c.in-Some.ensures.hindrance)

pub returns-in_ok-send_to_sleep-in-Some-clause-rested : goal.returns-in_ok-send_to_sleep-in-Some-clause-rested
returns-in_ok-send_to_sleep-in-Some-clause-rested g c = sleeps c.in-Some.other c.in-Some.ensures.hindrance c.in_ok-send_to_sleep-in-Some.ensures

pub returns-in_ok-push-in-None-clause-rested : goal.returns-in_ok-push-in-None-clause-rested
returns-in_ok-push-in-None-clause-rested g c =
    stays (record { free = c.in-None.ensures.hindrance; left = not_spent (kept_of g.D.Deps.seen c.args.core.now) c.args.task.0 c.spent.result c.spent.ensures c.if-spent.false }) c.in_ok-push-in-None.ensures.items refl refl
