use Rattle.oss_deps_tests.specs.Told.{IsTold}
use Rattle.oss_deps_tests.proofs.tests.worked.play.Given as goal

abbrev pub invariant-loop-moment : goal.invariant-loop-moment
invariant-loop-moment g l = IsTold (g.D.Deps.seen l.told.system) l.told.opens.items l.told.gives.items
