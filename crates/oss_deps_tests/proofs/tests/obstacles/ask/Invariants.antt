use Rattle.oss_deps_tests.specs.Told.{IsTold}
use Rattle.oss_deps_tests.proofs.tests.obstacles.ask.Given as goal

abbrev pub invariant-loop-task : goal.invariant-loop-task
invariant-loop-task g l = IsTold (g.D.Deps.seen l.told.system) l.told.opens.items l.told.gives.items
