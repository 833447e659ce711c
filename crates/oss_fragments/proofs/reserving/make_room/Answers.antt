use Rattle.std.proofs.Common.{◌<◌, ℕ, sym, subst, arith, length, set}
use Rattle.oss_fragments.specs.Stretches.{IsDivided}
use Rattle.oss_fragments.specs.Changes.{IsRoomier, HasGotRoom}
use Rattle.oss_fragments.proofs.StretchLemmas.{fragment_read}
use Rattle.oss_fragments.proofs.WalkLemmas.{walk_begins, walk_map, visit_within, visit_in, visit_divides, visit_goes}
use Rattle.oss_fragments.proofs.RoomLemmas.{roomier_finer, room_ends}
use Rattle.oss_fragments.proofs.reserving.make_room.Goals as goal

pub fragments-init : goal.fragments-init
fragments-init c = record { walked = walk_begins HasGotRoom c.args.range.lo c.args.fragments.now.items; from = omega arith; divided = c.requires.begins }

pub index_mut-fragment-requires : goal.index_mut-fragment-requires
index_mut-fragment-requires c = omega (arith, visit_within HasGotRoom c.args.map.now.pieces c.args.fragments.now.items c.fragments.fragments.items c.args.range.lo c.fragments.cell c.requires.are c.fragments.invariant.walked c.fragments.invariant.from c.fragments.invariant.divided c.place_at-at.result c.place_at-at.ensures, c.fragments.fragments.ok.0)

pub returns-in_err-reserve-clause-finer : goal.returns-in_err-reserve-clause-finer
returns-in_err-reserve-clause-finer c =
    let walked = c.fragments.invariant.walked in
    let roomier = walk_map HasGotRoom IsRoomier (λ a b r. r.roomier) c.args.range.lo c.fragments.cell c.args.fragments.now.items c.fragments.fragments.items walked in
    let l : c.place_at-at.result < length c.fragments.fragments.items = visit_within HasGotRoom c.args.map.now.pieces c.args.fragments.now.items c.fragments.fragments.items c.args.range.lo c.fragments.cell c.requires.are walked c.fragments.invariant.from c.fragments.invariant.divided c.place_at-at.result c.place_at-at.ensures in
    let is = fragment_read c.fragments.fragments.items c.place_at-at.result c.index_mut-fragment.result.now l c.index_mut-fragment.ensures.value in
    roomier_finer c.args.map.now.pieces c.args.fragments.now.items (set c.fragments.fragments.items c.place_at-at.result c.reserve.new.self) c.args.range.lo c.reserve.new.self.hi
    (visit_goes IsRoomier c.args.map.now.pieces c.args.fragments.now.items c.fragments.fragments.items c.args.range.lo c.fragments.cell c.requires.are roomier c.fragments.invariant.from c.fragments.invariant.divided c.place_at-at.result c.place_at-at.ensures c.index_mut-fragment.result.now is c.reserve.new.self c.reserve.ensures.edges c.reserve.ensures.roomier)

pub fragments-smaller : goal.fragments-smaller
fragments-smaller c =
    let l : c.place_at-at.result < length c.fragments.fragments.items = visit_within HasGotRoom c.args.map.now.pieces c.args.fragments.now.items c.fragments.fragments.items c.args.range.lo c.fragments.cell c.requires.are c.fragments.invariant.walked c.fragments.invariant.from c.fragments.invariant.divided c.place_at-at.result c.place_at-at.ensures in
    let is = fragment_read c.fragments.fragments.items c.place_at-at.result c.index_mut-fragment.result.now l c.index_mut-fragment.ensures.value in
    omega (arith, (visit_in HasGotRoom c.args.map.now.pieces c.args.fragments.now.items c.fragments.fragments.items c.args.range.lo c.fragments.cell c.requires.are c.fragments.invariant.walked c.fragments.invariant.from c.fragments.invariant.divided c.place_at-at.result c.place_at-at.ensures c.index_mut-fragment.result.now is).1, c.reserve.ensures.edges.hi, c.fragments-test.true)

pub fragments-preserved : goal.fragments-preserved
fragments-preserved c =
    let l : c.place_at-at.result < length c.fragments.fragments.items = visit_within HasGotRoom c.args.map.now.pieces c.args.fragments.now.items c.fragments.fragments.items c.args.range.lo c.fragments.cell c.requires.are c.fragments.invariant.walked c.fragments.invariant.from c.fragments.invariant.divided c.place_at-at.result c.place_at-at.ensures in
    let is = fragment_read c.fragments.fragments.items c.place_at-at.result c.index_mut-fragment.result.now l c.index_mut-fragment.ensures.value in
    record {
      walked = visit_goes HasGotRoom c.args.map.now.pieces c.args.fragments.now.items c.fragments.fragments.items c.args.range.lo c.fragments.cell c.requires.are c.fragments.invariant.walked c.fragments.invariant.from c.fragments.invariant.divided c.place_at-at.result c.place_at-at.ensures c.index_mut-fragment.result.now is c.reserve.new.self c.reserve.ensures.edges (record { roomier = c.reserve.ensures.roomier; got = c.in_ok-reserve.ensures.got });
      from = omega (arith, (visit_in HasGotRoom c.args.map.now.pieces c.args.fragments.now.items c.fragments.fragments.items c.args.range.lo c.fragments.cell c.requires.are c.fragments.invariant.walked c.fragments.invariant.from c.fragments.invariant.divided c.place_at-at.result c.place_at-at.ensures c.index_mut-fragment.result.now is).1, c.reserve.ensures.edges.hi, c.fragments.invariant.from);
      divided = subst (λ (x : ℕ). IsDivided c.args.fragments.now.items x) (sym c.reserve.ensures.edges.hi) (visit_divides HasGotRoom c.args.map.now.pieces c.args.fragments.now.items c.fragments.fragments.items c.args.range.lo c.fragments.cell c.requires.are c.fragments.invariant.walked c.fragments.invariant.from c.fragments.invariant.divided c.place_at-at.result c.place_at-at.ensures c.index_mut-fragment.result.now is);
    }

pub returns-clause-finer : goal.returns-clause-finer
returns-clause-finer c = roomier_finer c.args.map.now.pieces c.args.fragments.now.items c.fragments.fragments.items c.args.range.lo c.fragments.cell (walk_map HasGotRoom IsRoomier (λ a b r. r.roomier) c.args.range.lo c.fragments.cell c.args.fragments.now.items c.fragments.fragments.items c.fragments.invariant.walked)

pub returns-clause-room : goal.returns-clause-room
returns-clause-room c = room_ends c.args.fragments.now.items c.fragments.fragments.items c.args.range.lo c.args.range.hi c.fragments.cell c.requires.begins c.fragments.invariant.walked c.fragments-test.false
