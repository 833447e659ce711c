use Rattle.std.proofs.Common.{length}
use Rattle.oss_missing_waits.proofs.FollowLemmas.{ClosesOn}
use Rattle.oss_missing_waits.proofs.following.Following.close_all.Given as goal

-- some of those that were open have ended
abbrev pub invariant-ends : goal.invariant-ends
invariant-ends l = ClosesOn l.fn.self l.self

-- those that are open
abbrev pub decreases-ends : goal.decreases-ends
decreases-ends l = length l.self.above
