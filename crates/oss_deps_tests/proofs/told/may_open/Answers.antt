use Rattle.std.proofs.Common.{arith}
use Rattle.oss_deps_tests.proofs.ToldLemmas.{may_be_opened}
use Rattle.oss_deps_tests.proofs.told.may_open.Goals as goal

pub returns-then-is_shallow : goal.returns-then-is_shallow
returns-then-is_shallow c = λ e. may_be_opened c.args.opens.now c.args.gives.now c.args.task c.args.parent 4 c.args.access c.in-None.ensures.none (c.is_shallow.ensures c.if-is_shallow.true) (omega arith) (c.is_lent.ensures e)
