use Rattle.oss_deps_tests.proofs.ToldLemmas.{prepared_begins, prepared_ends, told_given, told_prepared, told_same}
use Rattle.oss_deps_tests.proofs.told.Told.give.Goals as goal

pub give-requires : goal.give-requires
give-requires g c =
    let old = g.D.Deps.seen c.args.self.now.system in
    let new = g.D.Deps.seen c.prepare.new.self in
    c.may_give.ensures c.if-not-may_give.false new (told_prepared c.args.self.now.opens.items c.args.self.now.gives.items c.args.range old new c.in_ok-prepare.ensures.ok c.requires) (prepared_begins c.args.range old new c.in_ok-prepare.ensures.ok) (prepared_ends c.args.range old new c.in_ok-prepare.ensures.ok)

pub returns-in_err-prepare-clause-told : goal.returns-in_err-prepare-clause-told
returns-in_err-prepare-clause-told g c = rw c.reserve.ensures.items (told_same c.args.self.now.opens.items c.args.self.now.gives.items (g.D.Deps.seen c.args.self.now.system) (g.D.Deps.seen c.prepare.new.self) c.in_err-prepare.ensures.err c.requires)

pub returns-clause-told : goal.returns-clause-told
returns-clause-told g c =
    let told = told_prepared c.args.self.now.opens.items c.args.self.now.gives.items c.args.range (g.D.Deps.seen c.args.self.now.system) (g.D.Deps.seen c.prepare.new.self) c.in_ok-prepare.ensures.ok c.requires in
    rw (c.push_reserved.ensures.items, c.reserve.ensures.items) (told_given c.args.self.now.opens.items c.args.self.now.gives.items c.args.task c.args.range (g.D.Deps.seen c.prepare.new.self) (g.D.Deps.seen c.give.new.self) c.give.ensures told)
