use Rattle.std.proofs.Common.{◌≡◌}
use Rattle.crossbeam_queue.specs.Passes.{IsPassOf}
use Rattle.oss_crew.proofs.work.work.Given as goal

abbrev pub invariant-loop : goal.invariant-loop
invariant-loop g l = record {
  rests : g.W.Shift.rests l.shift l.seat;
  mark : g.W.Shift.mark l.seat ≡ g.W.Shift.mark l.fn.begun.seat;
  pass : IsPassOf l.queue l.pass;
}
