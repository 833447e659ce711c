use Rattle.oss_crew.specs.Seats.{AreHome}
use Rattle.oss_crew.proofs.crew.come_home.Given as goal

-- the seats of those so far
abbrev pub invariant-loop-one : goal.invariant-loop-one
invariant-loop-one g l = AreHome l.yielded l.back.items
