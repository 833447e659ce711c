use Rattle.oss_crew.specs.declared.work.Worker.{Worker}
use Rattle.std.proofs.Common.{arith}
use Rattle.oss_crew.proofs.Homes.{all_seated, length_seats}
use Rattle.oss_crew.proofs.crew.run_crew.Goals as goal

pub crew_by-requires-clause-rests : goal.crew_by-requires-clause-rests
crew_by-requires-clause-rests g c κs within = all_seated {J = Worker g.row.S.Denot} (λ w. w.seat) (g.W.Shift.rests c.args.shift.now) c.in_ok-roster.workers.items c.args.seats.items c.in_ok-roster.ensures.seats c.requires.rests

pub crew_by-requires-clause-numbers : goal.crew_by-requires-clause-numbers
crew_by-requires-clause-numbers g c κs within k d l =
    omega (arith, c.in_ok-roster.ensures.numbers k d l, length_seats {J = Worker g.row.S.Denot} (λ w. w.seat) c.in_ok-roster.workers.items c.args.seats.items c.in_ok-roster.ensures.seats, c.requires.crew)
