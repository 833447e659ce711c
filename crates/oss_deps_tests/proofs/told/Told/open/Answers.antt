use Rattle.oss_deps.specs.Seen.{CanOpen}
use Rattle.oss_deps_tests.proofs.ToldLemmas.{told_opened, told_same}
use Rattle.oss_deps_tests.proofs.told.Told.open.Goals as goal

pub open-requires : goal.open-requires
open-requires g c = rw c.in_ok-accesses.ensures (c.may_open.ensures c.if-not-may_open.false (g.D.Deps.seen c.args.self.now.system) c.requires)

pub returns-in_err-open-clause-told : goal.returns-in_err-open-clause-told
returns-in_err-open-clause-told g c = rw c.reserve.ensures.items (told_same c.args.self.now.opens.items c.args.self.now.gives.items (g.D.Deps.seen c.args.self.now.system) (g.D.Deps.seen c.open.new.self) c.in_err-open.ensures.err c.requires)

pub returns-clause-told : goal.returns-clause-told
returns-clause-told g c =
    let can : CanOpen (g.D.Deps.seen c.args.self.now.system) (record { task = c.args.task; parent = c.args.parent; accesses = c.in_ok-accesses.accesses }) = rw c.in_ok-accesses.ensures (c.may_open.ensures c.if-not-may_open.false (g.D.Deps.seen c.args.self.now.system) c.requires) in
    rw (c.push_reserved.ensures.items, c.reserve.ensures.items) (told_opened c.args.self.now.opens.items c.args.self.now.gives.items (record { task = c.args.task; parent = c.args.parent; accesses = c.in_ok-accesses.accesses }) (g.D.Deps.seen c.args.self.now.system) (g.D.Deps.seen c.open.new.self) can c.in_ok-open.ensures.ok c.requires)
