use Rattle.oss_deps.proofs.LookupLemmas.{AreOthers}
use Rattle.oss_deps_tests.proofs.told.number_of.Given as goal

abbrev pub invariant-loop-at : goal.invariant-loop-at
invariant-loop-at l = AreOthers l.opens l.task l.at
