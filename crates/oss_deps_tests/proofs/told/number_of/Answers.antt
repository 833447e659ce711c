use Rattle.oss_deps.proofs.LookupLemmas.{others_all}
use Rattle.oss_deps_tests.proofs.told.number_of.Goals as goal

pub returns-clause-none : goal.returns-clause-none
returns-clause-none c = λ k. others_all c.args.opens.now c.args.task c.loop-at.at c.loop-at.invariant c.loop-at-test.false c.if-task-eq0.false k
