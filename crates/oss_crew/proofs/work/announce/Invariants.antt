use Rattle.crossbeam_queue.specs.Passes.{IsPassOf}
use Rattle.oss_crew.proofs.work.announce.Given as goal

abbrev pub invariant-loop : goal.invariant-loop
invariant-loop g l = IsPassOf l.queue l.pass
