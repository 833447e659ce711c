use Rattle.std.proofs.Common.{sym}
use Rattle.oss_deps_tests.proofs.ToldLemmas.{told_known, told_same}
use Rattle.oss_deps_tests.proofs.told.Told.children_done.Goals as goal

pub children_done-requires : goal.children_done-requires
children_done-requires g c = told_known c.args.self.now.opens.items c.args.self.now.gives.items (g.D.Deps.seen c.args.self.now.system) c.requires c.in-Some.field-0 c.args.task (rw (sym c.as_slice.ensures.value) c.in-Some.ensures.found)

pub returns-in-Some-clause-told : goal.returns-in-Some-clause-told
returns-in-Some-clause-told g c = told_same c.args.self.now.opens.items c.args.self.now.gives.items (g.D.Deps.seen c.args.self.now.system) (g.D.Deps.seen c.children_done.new.self) c.children_done.ensures.same c.requires
