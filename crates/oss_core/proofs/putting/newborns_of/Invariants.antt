use Rattle.oss_core.specs.Putting.{AreNewborns}
use Rattle.oss_core.proofs.putting.newborns_of.Given as goal

-- the new tasks of the bodies so far
abbrev pub invariant-loop-body : goal.invariant-loop-body
invariant-loop-body l = AreNewborns l.newborns.items l.yielded
