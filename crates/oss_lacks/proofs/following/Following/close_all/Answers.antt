use Rattle.std.proofs.Common.{Bool, subst}
use Rattle.oss_lacks.specs.Following.{IsClosed}
use Rattle.oss_lacks.proofs.KeptLemmas.{closes_last, closes_more, closes_none}
use Rattle.oss_lacks.proofs.following.Following.close_all.Goals as goal

pub ends-init : goal.ends-init
ends-init c = closes_none c.args.self.now

pub ends-smaller : goal.ends-smaller
ends-smaller c = c.in_ok-more.ensures.less c.if-not-more.false

pub ends-preserved : goal.ends-preserved
ends-preserved c = closes_more c.args.self.now c.ends.self c.close.new.self c.in_ok-more.more c.ends.invariant c.in_ok-more.ensures

pub returns-then-not-more : goal.returns-then-not-more
returns-then-not-more c = closes_last c.args.self.now c.ends.self c.close.new.self c.ends.invariant (subst (λ (b : Bool). IsClosed c.ends.self c.close.new.self b) c.if-not-more.true c.in_ok-more.ensures)
