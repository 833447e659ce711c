use Rattle.oss_deps_tests.proofs.ToldLemmas.{apart_all}
use Rattle.oss_deps_tests.proofs.told.is_kept.Goals as goal

pub returns : goal.returns
returns c = λ e. apart_all c.args.gives.now c.args.task c.args.range.lo c.args.range.hi c.loop-at.at c.loop-at.invariant c.loop-at-test.false
