use Rattle.std.proofs.Common.{refl, arith, None}
use Rattle.std.specs.Prelude.{vec_capacity}
use Rattle.oss_regions.specs.Kept.{seen_of}
use Rattle.oss_regions.proofs.KeptLemmas.{prepares_seen, right_none, right_still, seen_prepares}
use Rattle.oss_regions.proofs.system.RegionsDeps.prepare.Goals as goal

pub invariant_of-self : goal.invariant_of-self
invariant_of-self c =
    right_still c.self.inside.opens.items (vec_capacity c.self.inside.opens) c.self.inside.cells c.prepare.new.self c.self.inside.reserved c.self.invariant c.prepare.ensures.here c.self.inside.opens.items (vec_capacity c.self.inside.opens) refl (omega arith) c.prepare.ensures.ready

pub invariant_of-self-2 : goal.invariant_of-self-2
invariant_of-self-2 c = right_none c.self.inside.opens.items (vec_capacity c.self.inside.opens) c.self.inside.cells c.prepare.new.self c.self.inside.reserved c.self.invariant c.prepare.ensures.here

pub returns-clause-ok : goal.returns-clause-ok
returns-clause-ok c =
    prepares_seen (seen_of (record { opens = c.self.inside.opens.items; cells = c.prepare.new.self; reserved = None })) c.self.view_is
    (seen_prepares c.self.inside.opens.items (vec_capacity c.self.inside.opens) c.self.inside.cells c.prepare.new.self c.self.inside.reserved c.self.invariant c.prepare.ensures.here c.args.range c.in_ok-prepare.ensures.ok)
