use Rattle.oss_deps_tests.specs.Told.{IsTold}
use Rattle.oss_deps_tests.proofs.tests.beside.compare_all.Given as goal

-- both are told
abbrev pub invariant-tasks : goal.invariant-tasks
invariant-tasks g l = record {
  one : IsTold (g.A.Deps.seen l.one.system) l.one.opens.items l.one.gives.items;
  other : IsTold (g.B.Deps.seen l.other.system) l.other.opens.items l.other.gives.items;
}
