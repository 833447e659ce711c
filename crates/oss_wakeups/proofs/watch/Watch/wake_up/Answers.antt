use Rattle.std.proofs.Common.{refl}
use Rattle.oss_wakeups.proofs.WakingLemmas.{woken_up}
use Rattle.oss_wakeups.proofs.watch.Watch.wake_up.Goals as goal

pub returns : goal.returns
returns c = woken_up c.args.task c.args.self.now _ c.requires c.set_flag.ensures c.in_ok-push.ensures.items refl
