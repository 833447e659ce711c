use Rattle.oss_crew.proofs.Homes.{home_more}
use Rattle.oss_crew.proofs.crew.come_home.Goals as goal

pub loop-one-preserved : goal.loop-one-preserved
loop-one-preserved g c = home_more c.loop-one.yielded c.loop-one.back.items c.push.new.self.items c.in-Some.one c.in_ok-seat.seat c.in_ok-seat.was c.in_ok-push.ensures.items c.loop-one.invariant
