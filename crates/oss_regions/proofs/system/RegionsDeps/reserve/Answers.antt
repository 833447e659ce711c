use Rattle.std.proofs.Common.{arith, subst, Some, List}
use Rattle.std.specs.Prelude.{vec_capacity}
use Rattle.oss_syntax.specs.declared.access.Access.{Access}
use Rattle.oss_fragments.specs.Stretches.{AreReady}
use Rattle.oss_regions.specs.Kept.{seen_of}
use Rattle.oss_regions.proofs.KeptLemmas.{reserves_seen, right_reserved, right_still, seen_reserves}
use Rattle.oss_regions.proofs.system.RegionsDeps.reserve.Goals as goal

pub invariant_of-self-in_err-reserve-2 : goal.invariant_of-self-in_err-reserve-2
invariant_of-self-in_err-reserve-2 c =
    right_still c.self.inside.opens.items (vec_capacity c.self.inside.opens) c.self.inside.cells c.reserve-2.new.self c.self.inside.reserved c.self.invariant c.reserve-2.ensures.here c.reserve.new.self.items (vec_capacity c.reserve.new.self) c.reserve.ensures.items c.reserve.ensures.capacity c.reserve-2.ensures.ready

pub invariant_of-self-in_err-copied : goal.invariant_of-self-in_err-copied
invariant_of-self-in_err-copied c =
    right_still c.self.inside.opens.items (vec_capacity c.self.inside.opens) c.self.inside.cells c.reserve-2.new.self c.self.inside.reserved c.self.invariant c.reserve-2.ensures.here c.reserve.new.self.items (vec_capacity c.reserve.new.self) c.reserve.ensures.items c.reserve.ensures.capacity c.reserve-2.ensures.ready

pub invariant_of-self-2 : goal.invariant_of-self-2
invariant_of-self-2 c =
    right_reserved c.self.inside.opens.items (vec_capacity c.self.inside.opens) c.self.inside.cells c.reserve-2.new.self c.self.inside.reserved c.self.invariant c.reserve-2.ensures.here c.reserve.new.self.items (vec_capacity c.reserve.new.self) c.args.accesses.now c.in_ok-copied.field-0 c.reserve.ensures.items
    (omega (arith, c.in_ok-reserve.ensures.ok, c.reserve.new.self.ok.0)) c.in_ok-copied.ensures (subst (λ (xs : List Access). AreReady xs c.reserve-2.new.self.fragments) c.as_slice.ensures c.in_ok-reserve-2.ensures.ok)

pub returns-clause-ok : goal.returns-clause-ok
returns-clause-ok c =
    reserves_seen (seen_of (record { opens = c.reserve.new.self.items; cells = c.reserve-2.new.self; reserved = Some c.in_ok-copied.field-0 })) c.self.view_is
    (seen_reserves c.self.inside.opens.items (vec_capacity c.self.inside.opens) c.self.inside.cells c.reserve-2.new.self c.self.inside.reserved c.self.invariant c.reserve-2.ensures.here c.reserve.new.self.items c.args.accesses.now c.in_ok-copied.field-0 c.reserve.ensures.items c.in_ok-copied.ensures c.reserve-2.ensures.cuts)
