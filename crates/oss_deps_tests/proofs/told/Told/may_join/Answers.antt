use Rattle.std.proofs.Common.{List, subst}
use Rattle.oss_syntax.specs.declared.access.Mode.{Mode}
use Rattle.oss_deps.specs.declared.opened.Open.{Open}
use Rattle.oss_deps_tests.specs.Told.{HasModeOver}
use Rattle.oss_deps_tests.proofs.ToldLemmas.{told_folding, told_same}
use Rattle.oss_deps_tests.proofs.told.Told.may_join.Goals as goal

pub may_join-requires : goal.may_join-requires
may_join-requires g c = told_folding c.args.self.now.opens.items c.args.self.now.gives.items (g.D.Deps.seen c.args.self.now.system) c.requires c.args.task c.args.range.lo c.args.range.hi c.in-Some-Fold.field-0-0 c.args.range.ordered
    (subst (λ (m : Mode). HasModeOver c.args.self.now.opens.items c.args.task c.args.range.lo c.args.range.hi m) c.in-Some-Fold.field-0-is (subst (λ (xs : List Open). HasModeOver xs c.args.task c.args.range.lo c.args.range.hi c.in-Some-Fold.field-0) c.as_slice.ensures.value c.in-Some-Fold.ensures))

pub returns-in-Some-Fold-clause-told : goal.returns-in-Some-Fold-clause-told
returns-in-Some-Fold-clause-told g c = told_same c.args.self.now.opens.items c.args.self.now.gives.items (g.D.Deps.seen c.args.self.now.system) (g.D.Deps.seen c.may_join.new.self) c.may_join.ensures.same c.requires
