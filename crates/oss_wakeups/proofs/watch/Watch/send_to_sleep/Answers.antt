use Rattle.std.proofs.Common.{length, refl}
use Rattle.std.proofs.lemmas.Option.{slice_get_read}
use Rattle.oss_wakeups.proofs.SleepLemmas.{has_watched}
use Rattle.oss_wakeups.proofs.watch.Watch.send_to_sleep.Goals as goal

pub returns : goal.returns
returns c = has_watched c.args.task c.args.other c.args.self.now _ c.push.new.self c.requires.task refl c.set_flag.ensures c.index_mut.result.now (slice_get_read c.args.self.now.watchers.items (length c.args.self.now.watchers.items) c.args.other.0 c.index_mut.result.now refl c.requires.other c.index_mut.ensures.value) c.in_ok-push.ensures.items refl
