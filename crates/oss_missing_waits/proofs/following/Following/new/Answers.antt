use Rattle.std.proofs.Common.{refl}
use Rattle.oss_missing_waits.proofs.FollowLemmas.{first_follows}
use Rattle.oss_missing_waits.proofs.following.Following.new.Goals as goal

pub returns : goal.returns
returns c = first_follows (record { alloc = c.args.alloc; current = record { number = 0; task = c.new-task.result }; above = c.new-above.result; told = c.new-told.result }) c.new-task.ensures refl c.new-above.ensures c.new-told.ensures.items
