use Rattle.crossbeam_queue.specs.Passes.{IsPassOf}
use Rattle.oss_crew.proofs.work.announce_all.Given as goal

abbrev pub invariant-loop-at : goal.invariant-loop-at
invariant-loop-at g l = IsPassOf l.queue l.pass
