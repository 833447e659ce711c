use Rattle.std.proofs.Common.{Bool, subst}
use Rattle.oss_missing_waits.specs.Following.{IsClosed}
use Rattle.oss_missing_waits.proofs.FollowLemmas.{closes_last, closes_more, closes_none}
use Rattle.oss_missing_waits.proofs.following.Following.close_all.Goals as goal

pub ends-init : goal.ends-init
ends-init c = closes_none c.args.self.now

pub ends-smaller : goal.ends-smaller
ends-smaller c = c.close-more.ensures.less c.if-not-more.false

pub ends-preserved : goal.ends-preserved
ends-preserved c = closes_more c.args.self.now c.ends.self c.close-more.new.self c.close-more.result c.ends.invariant c.close-more.ensures

pub returns-then-not-more : goal.returns-then-not-more
returns-then-not-more c = closes_last c.args.self.now c.ends.self c.close-more.new.self c.ends.invariant (subst (λ (b : Bool). IsClosed c.ends.self c.close-more.new.self b) c.if-not-more.true c.close-more.ensures)
