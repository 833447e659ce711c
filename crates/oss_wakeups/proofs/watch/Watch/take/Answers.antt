use Rattle.std.proofs.Common.{refl}
use Rattle.oss_wakeups.proofs.watch.Watch.take.Goals as goal

pub returns : goal.returns
returns c = record { awake = c.in_ok-push.ensures.items; asleep = c.set_flag.ensures; watchers = refl }
