use Rattle.oss_deps_tests.proofs.ToldLemmas.{told_asked}
use Rattle.oss_deps_tests.proofs.told.Told.reserve.Goals as goal

pub returns-clause-told : goal.returns-clause-told
returns-clause-told g c = told_asked c.args.self.now.opens.items c.args.self.now.gives.items c.reserve.result c.in_ok-accesses.accesses (g.D.Deps.seen c.args.self.now.system) (g.D.Deps.seen c.reserve.new.self) c.reserve.ensures.ok c.reserve.ensures.err c.requires
