use Rattle.std.proofs.Common.{◌≡◌, ◌+◌, All, length}
use Rattle.std.specs.List.{sum_by}
use Rattle.oss_phases.proofs.phase.seats_of.Given as goal

-- each seat so far rests, and each but the first has one part
abbrev pub invariant-loop : goal.invariant-loop
invariant-loop g l = record {
  seat : g.F.Shift.rests l.table l.seat;
  seats : All (g.F.Shift.rests l.table) l.seats.items;
  count : length l.seats.items + 1 ≡ l.counter;
  sum : g.F.Shift.mark l.seat + sum_by g.F.Shift.mark l.seats.items ≡ 65537;
  ones : sum_by g.F.Shift.mark l.seats.items ≡ length l.seats.items;
}
