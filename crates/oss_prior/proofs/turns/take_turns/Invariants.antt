use Rattle.oss_core.specs.CoreLeft.{core_left}
use Rattle.oss_core.specs.Cores.{kept_of}
use Rattle.oss_wakeups.specs.Asides.{IsSetAside}
use Rattle.oss_prior.specs.Choosing.{AreReady}
use Rattle.oss_prior.specs.Turning.{HaveTurnsGone}
use Rattle.oss_prior.proofs.turns.take_turns.Given as goal

-- so far turns were made, each task that can step stands aside, and the queue has just these
abbrev pub invariant-turns : goal.invariant-turns
invariant-turns g l = record {
  gone : HaveTurnsGone l.code (kept_of g.D.Deps.seen l.fn.core) (kept_of g.D.Deps.seen l.core) l.order l.next;
  watch : IsSetAside (kept_of g.D.Deps.seen l.core) l.watch;
  queue : AreReady (kept_of g.D.Deps.seen l.core) l.queue;
}

-- what is left to do falls with each turn
abbrev pub decreases-turns : goal.decreases-turns
decreases-turns g l = core_left l.code (kept_of g.D.Deps.seen l.core)
