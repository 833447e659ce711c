use Rattle.oss_deps_tests.proofs.ToldLemmas.{AreApart}
use Rattle.oss_deps_tests.proofs.told.is_kept.Given as goal

-- the ranges so far are apart
abbrev pub invariant-loop-at : goal.invariant-loop-at
invariant-loop-at l = AreApart l.gives l.task l.range.lo l.range.hi l.at
