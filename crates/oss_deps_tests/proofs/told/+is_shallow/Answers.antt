use Rattle.oss_deps_tests.proofs.ToldLemmas.{number_main, shallow_below, shallow_main}
use Rattle.oss_deps_tests.proofs.told.+is_shallow.Goals as goal

pub returns-then-number-eq0 : goal.returns-then-number-eq0
returns-then-number-eq0 t c = λ e. shallow_main c.args.opens.now c.args.task c.args.levels (number_main c.args.opens.now c.in-Some.number c.args.task c.in-Some.ensures.found c.if-number-eq0.true)

pub returns : goal.returns
returns t c = λ e. shallow_below c.args.opens.now c.in-Some.number c.args.task c.args.levels c.index-opens-number.result c.in-Some.ensures.found c.if-number-eq0.false c.if-levels-eq0.false (c.is_shallow.ensures e)
