use Rattle.std.proofs.Common.{sym}
use Rattle.oss_deps_tests.proofs.ToldLemmas.{told_known, told_same}
use Rattle.oss_deps_tests.proofs.told.Told.undone_child.Goals as goal

pub undone_child-requires : goal.undone_child-requires
undone_child-requires g c = told_known c.args.self.now.opens.items c.args.self.now.gives.items (g.D.Deps.seen c.args.self.now.system) c.requires c.in-Some.field-0 c.args.task (rw (sym c.as_slice.ensures.value) c.in-Some.ensures.found)

pub returns-in-Some-clause-told : goal.returns-in-Some-clause-told
returns-in-Some-clause-told g c = told_same c.args.self.now.opens.items c.args.self.now.gives.items (g.D.Deps.seen c.args.self.now.system) (g.D.Deps.seen c.undone_child.new.self) c.undone_child.ensures.same c.requires
