use Rattle.oss_crew.proofs.Homes.{all_back, if_ok}
use Rattle.oss_crew.proofs.crew.crew_by.Goals as goal

pub returns : goal.returns
returns g c = if_ok c.come_home.result (λ back home. all_back (λ w. w.seat) (g.W.Shift.rests c.args.shift.now) g.W.Shift.mark c.args.workers.items c.in_ok-done.done.items back.items c.in_ok-done.ensures.len c.in_ok-done.ensures.each home) c.come_home.ensures
