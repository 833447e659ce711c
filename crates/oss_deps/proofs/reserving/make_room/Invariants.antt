use Rattle.std.proofs.Common.{◌-◌, ◌≤◌}
use Rattle.oss_deps.specs.Columns.{IsDivided}
use Rattle.oss_deps.proofs.RoomLemmas.{AreRoomier}
use Rattle.oss_deps.proofs.reserving.make_room.Given as goal

-- the stretches so far have room
abbrev pub invariant-stretches : goal.invariant-stretches
invariant-stretches l = record {
  roomier : AreRoomier l.fn.columns.items l.columns.items l.range.lo l.cell;
  from : l.range.lo ≤ l.cell;
  divided : IsDivided l.fn.columns.items l.cell;
}

abbrev pub decreases-stretches : goal.decreases-stretches
decreases-stretches l = l.range.hi - l.cell
