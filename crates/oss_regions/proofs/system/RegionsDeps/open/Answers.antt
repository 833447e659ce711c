use Rattle.oss_deps.proofs.PlainLemmas.{can_reserved, opens_reserved}
use Rattle.oss_regions.specs.Kept.{seen_of}
use Rattle.oss_regions.proofs.system.RegionsDeps.open.Goals as goal

pub open_reserved-requires : goal.open_reserved-requires
open_reserved-requires c = (
  c.args.accesses.now,
  c.in_ok-make_reserved.ensures.ok.reserved,
  can_reserved c.args.accesses.now (seen_of c.args.self.now) (seen_of c.make_reserved.new.self) (record { task = c.args.task.0; parent = c.args.parent.0; accesses = c.args.accesses.now }) c.in_ok-make_reserved.ensures.ok c.requires,
)

pub returns-clause-ok : goal.returns-clause-ok
returns-clause-ok c =
    opens_reserved c.args.accesses.now (seen_of c.args.self.now) (seen_of c.make_reserved.new.self) (seen_of c.open_reserved.new.self) (record { task = c.args.task.0; parent = c.args.parent.0; accesses = c.args.accesses.now }) c.in_ok-make_reserved.ensures.ok
    (c.open_reserved.ensures c.args.accesses.now c.in_ok-make_reserved.ensures.ok.reserved)
