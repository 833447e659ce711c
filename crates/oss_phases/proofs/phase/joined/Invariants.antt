use Rattle.std.proofs.Common.{◌≡◌, ◌+◌, All, length}
use Rattle.std.specs.List.{sum_by}
use Rattle.oss_phases.proofs.phase.joined.Given as goal

-- the seats that are left, and the one that has the parts of the others
abbrev pub invariant-loop-other : goal.invariant-loop-other
invariant-loop-other g l = record {
  seat : g.F.Shift.rests l.table l.seat;
  seats : All (g.F.Shift.rests l.table) l.seats.items;
  sum : g.F.Shift.mark l.seat + sum_by g.F.Shift.mark l.seats.items ≡ 65537;
}

-- a seat less
abbrev pub decreases-loop-other : goal.decreases-loop-other
decreases-loop-other g l = length l.seats.items
