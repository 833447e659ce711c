use Rattle.std.proofs.Common.{◌≡◌, ◌+◌, sym, subst, drop, inl, inr, ◌⊎◌}
use Rattle.oss_syntax.specs.declared.access.Access.{Access}
use Rattle.oss_model.specs.Order.{IsIn}
use Rattle.oss_fragments.specs.Stretches.{IsReady}
use Rattle.oss_deps.proofs.AskLemmas.{next_item, none_left}
use Rattle.oss_fragments.proofs.DivideLemmas.{finer_both, finer_range}
use Rattle.oss_fragments.proofs.reserving.make_ready.Goals as goal

pub returns-in_err-split_around-clause-finer : goal.returns-in_err-split_around-clause-finer
returns-in_err-split_around-clause-finer c = (finer_both c.args.map.now.pieces c.args.fragments.now.items c.loop-access.map.pieces c.loop-access.fragments.items c.split_around.new.map.pieces c.split_around.new.fragments.items c.loop-access.invariant.finer c.split_around.ensures.finer)

pub returns-in_err-make_room-clause-finer : goal.returns-in_err-make_room-clause-finer
returns-in_err-make_room-clause-finer c = (finer_both c.args.map.now.pieces c.args.fragments.now.items c.split_around.new.map.pieces c.split_around.new.fragments.items c.split_around.new.map.pieces c.make_room.new.fragments.items (finer_both c.args.map.now.pieces c.args.fragments.now.items c.loop-access.map.pieces c.loop-access.fragments.items c.split_around.new.map.pieces c.split_around.new.fragments.items c.loop-access.invariant.finer c.split_around.ensures.finer) c.make_room.ensures.finer)

pub loop-access-preserved : goal.loop-access-preserved
loop-access-preserved c = record { finer = (finer_both c.args.map.now.pieces c.args.fragments.now.items c.split_around.new.map.pieces c.split_around.new.fragments.items c.split_around.new.map.pieces c.make_room.new.fragments.items (finer_both c.args.map.now.pieces c.args.fragments.now.items c.loop-access.map.pieces c.loop-access.fragments.items c.split_around.new.map.pieces c.split_around.new.fragments.items c.loop-access.invariant.finer c.split_around.ensures.finer) c.make_room.ensures.finer); ready = λ a i. go a (c.loop-access.invariant.ready a i) }
  where
    now : IsReady c.make_room.new.fragments.items c.access-item.result.range.lo c.access-item.result.range.hi
    now =
        let n = c.split_around.ensures.finer.some (c.loop-access.invariant.finer.some c.requires.some) in
        record {
          begins = c.make_room.ensures.finer.divided n c.access-item.result.range.lo c.in_ok-split_around.ensures.begins;
          ends = c.make_room.ensures.finer.divided n c.access-item.result.range.hi c.in_ok-split_around.ensures.ends;
          room = c.in_ok-make_room.ensures.room;
        }

    here : (a : Access) → (a ≡ c.access-item.result) ⊎ IsIn a (drop (c.loop-access.access-index + 1) c.args.accesses.now) → IsIn a (drop (c.loop-access.access-index + 1) c.args.accesses.now) ⊎ IsReady c.make_room.new.fragments.items a.range.lo a.range.hi
    here a (inl e) = inr (subst (λ (x : Access). IsReady c.make_room.new.fragments.items x.range.lo x.range.hi) (sym e) now)
    here a (inr j) = inl j

    go : (a : Access) → IsIn a (drop c.loop-access.access-index c.args.accesses.now) ⊎ IsReady c.loop-access.fragments.items a.range.lo a.range.hi → IsIn a (drop (c.loop-access.access-index + 1) c.args.accesses.now) ⊎ IsReady c.make_room.new.fragments.items a.range.lo a.range.hi
    go a (inr r) = inr (finer_range c.loop-access.map.pieces c.loop-access.fragments.items c.split_around.new.map.pieces c.make_room.new.fragments.items (finer_both c.loop-access.map.pieces c.loop-access.fragments.items c.split_around.new.map.pieces c.split_around.new.fragments.items c.split_around.new.map.pieces c.make_room.new.fragments.items c.split_around.ensures.finer c.make_room.ensures.finer) (c.loop-access.invariant.finer.some c.requires.some) a.range.lo a.range.hi r)
    go a (inl j) = here a (next_item c.args.accesses.now c.loop-access.access-index c.access-item.result a c.loop-access-test.true c.access-item.is j)

pub returns-clause-ready : goal.returns-clause-ready
returns-clause-ready c = λ a i. go a (c.loop-access.invariant.ready a i)
  where
    go : (a : Access) → IsIn a (drop c.loop-access.access-index c.args.accesses.now) ⊎ IsReady c.loop-access.fragments.items a.range.lo a.range.hi → IsReady c.loop-access.fragments.items a.range.lo a.range.hi
    go a (inr r) = r
    go a (inl j) = absurd (none_left c.args.accesses.now c.loop-access.access-index a c.loop-access-test.false j)
