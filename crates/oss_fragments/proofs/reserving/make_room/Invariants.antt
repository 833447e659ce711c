use Rattle.std.proofs.Common.{◌-◌, ◌≤◌}
use Rattle.oss_fragments.specs.Stretches.{IsDivided}
use Rattle.oss_fragments.specs.Changes.{AreWalked, HasGotRoom}
use Rattle.oss_fragments.proofs.reserving.make_room.Given as goal

-- the fragments so far have room
abbrev pub invariant-fragments : goal.invariant-fragments
invariant-fragments l = record {
  walked : AreWalked HasGotRoom l.range.lo l.cell l.fn.fragments.items l.fragments.items;
  from : l.range.lo ≤ l.cell;
  divided : IsDivided l.fn.fragments.items l.cell;
}

abbrev pub decreases-fragments : goal.decreases-fragments
decreases-fragments l = l.range.hi - l.cell
