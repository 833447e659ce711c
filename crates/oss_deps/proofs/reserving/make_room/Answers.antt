use Rattle.std.proofs.Common.{◌≤◌, ◌⊎◌, ℕ, sym, subst, ◌∙◌, arith, set}
use Rattle.oss_deps.proofs.AskLemmas.{column_read}
use Rattle.oss_deps.proofs.RoomLemmas.{roomier_begins, roomier_finer, room_gap, room_within, room_in, room_goes, room_stays, room_divides, room_ends}
use Rattle.oss_deps.proofs.reserving.make_room.Goals as goal

pub stretches-init : goal.stretches-init
stretches-init c = record { roomier = roomier_begins c.args.columns.now.items c.args.range.lo; from = omega arith; divided = c.requires.begins }

pub index_mut-column-requires : goal.index_mut-column-requires
index_mut-column-requires c = omega (arith, room_within c.args.map.now.pieces c.args.columns.now.items c.stretches.columns.items c.args.range.lo c.stretches.cell c.requires.stretches c.stretches.invariant.roomier c.stretches.invariant.from c.stretches.invariant.divided c.in-Some.at (sym c.get.ensures ∙ c.in-Some.is), c.stretches.columns.ok.0)

pub returns-in_err-reserve-in-Some-clause-finer : goal.returns-in_err-reserve-in-Some-clause-finer
returns-in_err-reserve-in-Some-clause-finer c =
    roomier_finer c.args.map.now.pieces c.args.columns.now.items (set c.stretches.columns.items c.in-Some.at c.reserve.new.self) c.args.range.lo c.stretches.cell
    (room_stays c.args.map.now.pieces c.args.columns.now.items c.stretches.columns.items c.args.range.lo c.stretches.cell c.requires.stretches c.stretches.invariant.roomier c.stretches.invariant.from c.stretches.invariant.divided c.in-Some.at (sym c.get.ensures ∙ c.in-Some.is) c.index_mut-column.result.now (column_read c.stretches.columns.items c.in-Some.at c.index_mut-column.result.now (room_within c.args.map.now.pieces c.args.columns.now.items c.stretches.columns.items c.args.range.lo c.stretches.cell c.requires.stretches c.stretches.invariant.roomier c.stretches.invariant.from c.stretches.invariant.divided c.in-Some.at (sym c.get.ensures ∙ c.in-Some.is)) c.index_mut-column.ensures.value) c.reserve.new.self c.reserve.ensures.lo c.reserve.ensures.hi c.reserve.ensures.asked c.reserve.ensures.frames c.reserve.ensures.marks c.reserve.ensures.room)

pub stretches-smaller : goal.stretches-smaller
stretches-smaller c = omega (arith, (room_in c.args.map.now.pieces c.args.columns.now.items c.stretches.columns.items c.args.range.lo c.stretches.cell c.requires.stretches c.stretches.invariant.roomier c.stretches.invariant.from c.stretches.invariant.divided c.in-Some.at (sym c.get.ensures ∙ c.in-Some.is) c.index_mut-column.result.now (column_read c.stretches.columns.items c.in-Some.at c.index_mut-column.result.now (room_within c.args.map.now.pieces c.args.columns.now.items c.stretches.columns.items c.args.range.lo c.stretches.cell c.requires.stretches c.stretches.invariant.roomier c.stretches.invariant.from c.stretches.invariant.divided c.in-Some.at (sym c.get.ensures ∙ c.in-Some.is)) c.index_mut-column.ensures.value)).1, c.reserve.ensures.hi, c.stretches-test.true)

pub stretches-preserved : goal.stretches-preserved
stretches-preserved c = record {
  roomier = room_goes c.args.map.now.pieces c.args.columns.now.items c.stretches.columns.items c.args.range.lo c.stretches.cell c.requires.stretches c.stretches.invariant.roomier c.stretches.invariant.from c.stretches.invariant.divided c.in-Some.at (sym c.get.ensures ∙ c.in-Some.is) c.index_mut-column.result.now (column_read c.stretches.columns.items c.in-Some.at c.index_mut-column.result.now (room_within c.args.map.now.pieces c.args.columns.now.items c.stretches.columns.items c.args.range.lo c.stretches.cell c.requires.stretches c.stretches.invariant.roomier c.stretches.invariant.from c.stretches.invariant.divided c.in-Some.at (sym c.get.ensures ∙ c.in-Some.is)) c.index_mut-column.ensures.value) c.reserve.new.self c.reserve.ensures.lo c.reserve.ensures.hi c.reserve.ensures.asked c.reserve.ensures.frames c.reserve.ensures.marks c.reserve.ensures.room c.in_ok-reserve-in-Some.ensures.ok;
  from = omega (arith, (room_in c.args.map.now.pieces c.args.columns.now.items c.stretches.columns.items c.args.range.lo c.stretches.cell c.requires.stretches c.stretches.invariant.roomier c.stretches.invariant.from c.stretches.invariant.divided c.in-Some.at (sym c.get.ensures ∙ c.in-Some.is) c.index_mut-column.result.now (column_read c.stretches.columns.items c.in-Some.at c.index_mut-column.result.now (room_within c.args.map.now.pieces c.args.columns.now.items c.stretches.columns.items c.args.range.lo c.stretches.cell c.requires.stretches c.stretches.invariant.roomier c.stretches.invariant.from c.stretches.invariant.divided c.in-Some.at (sym c.get.ensures ∙ c.in-Some.is)) c.index_mut-column.ensures.value)).1, c.reserve.ensures.hi, c.stretches.invariant.from);
  divided = λ i a e. subst (λ (x : ℕ). (x ≤ a.lo) ⊎ (a.hi ≤ x)) (sym c.reserve.ensures.hi) (room_divides c.args.map.now.pieces c.args.columns.now.items c.stretches.columns.items c.args.range.lo c.stretches.cell c.requires.stretches c.stretches.invariant.roomier c.stretches.invariant.from c.stretches.invariant.divided c.in-Some.at (sym c.get.ensures ∙ c.in-Some.is) c.index_mut-column.result.now (column_read c.stretches.columns.items c.in-Some.at c.index_mut-column.result.now (room_within c.args.map.now.pieces c.args.columns.now.items c.stretches.columns.items c.args.range.lo c.stretches.cell c.requires.stretches c.stretches.invariant.roomier c.stretches.invariant.from c.stretches.invariant.divided c.in-Some.at (sym c.get.ensures ∙ c.in-Some.is)) c.index_mut-column.ensures.value) i a e);
}

pub unreachable-requires : goal.unreachable-requires
unreachable-requires c = room_gap c.args.map.now.pieces c.args.columns.now.items c.stretches.columns.items c.args.range.lo c.stretches.cell c.requires.stretches c.stretches.invariant.roomier c.stretches.invariant.from c.stretches.invariant.divided c.requires.some (omega (arith, c.stretches-test.true, c.args.range.within)) (sym c.get.ensures ∙ c.in-None.is)

pub returns-clause-finer : goal.returns-clause-finer
returns-clause-finer c = roomier_finer c.args.map.now.pieces c.args.columns.now.items c.stretches.columns.items c.args.range.lo c.stretches.cell c.stretches.invariant.roomier

pub returns-clause-room : goal.returns-clause-room
returns-clause-room c = room_ends c.args.columns.now.items c.stretches.columns.items c.args.range.lo c.args.range.hi c.stretches.cell c.requires.begins c.stretches.invariant.roomier c.stretches-test.false
