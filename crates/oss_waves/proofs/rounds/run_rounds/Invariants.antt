use Rattle.oss_core.specs.Cores.{kept_of}
use Rattle.oss_core.specs.CoreLeft.{core_left}
use Rattle.oss_wakeups.specs.Watches.{IsWatch}
use Rattle.oss_waves.specs.Rounding.{HaveRoundsGone}
use Rattle.oss_waves.proofs.rounds.run_rounds.Given as goal

-- so far rounds were made, and each task that may do something is awake
abbrev pub invariant-rounds : goal.invariant-rounds
invariant-rounds g l = record {
  gone : HaveRoundsGone l.code (kept_of g.D.Deps.seen l.fn.core) (kept_of g.D.Deps.seen l.core) l.waves l.widest;
  watch : IsWatch (kept_of g.D.Deps.seen l.core) l.watch;
}

-- what is left to do falls with each of them
abbrev pub decreases-rounds : goal.decreases-rounds
decreases-rounds g l = core_left l.code (kept_of g.D.Deps.seen l.core)
