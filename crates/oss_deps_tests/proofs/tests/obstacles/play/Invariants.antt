use Rattle.oss_deps_tests.specs.Told.{IsTold}
use Rattle.oss_deps_tests.proofs.tests.obstacles.play.Given as goal

abbrev pub invariant-loop-naming : goal.invariant-loop-naming
invariant-loop-naming g l = IsTold (g.D.Deps.seen l.told.system) l.told.opens.items l.told.gives.items
