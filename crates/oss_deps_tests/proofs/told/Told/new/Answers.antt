use Rattle.oss_deps_tests.proofs.ToldLemmas.{told_new}
use Rattle.oss_deps_tests.proofs.told.Told.new.Goals as goal

pub returns : goal.returns
returns g c = rw (c.new.ensures.items, c.new-2.ensures.items) (told_new (g.D.Deps.seen c.args.system) c.requires)
