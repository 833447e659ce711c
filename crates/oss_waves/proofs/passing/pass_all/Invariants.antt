use Rattle.oss_core.specs.Cores.{kept_of}
use Rattle.oss_core.specs.CoreLeft.{core_left}
use Rattle.oss_wakeups.specs.Watches.{IsWatch}
use Rattle.oss_waves.specs.Rounding.{HavePassesGone}
use Rattle.oss_waves.proofs.passing.pass_all.Given as goal

-- so far passes were made that gave something up
abbrev pub invariant-passes : goal.invariant-passes
invariant-passes g l = record {
  gone : HavePassesGone l.code (kept_of g.D.Deps.seen l.fn.core) (kept_of g.D.Deps.seen l.core) l.fn.lines l.lines;
  watch : IsWatch (kept_of g.D.Deps.seen l.core) l.watch;
}

-- what is left to do falls with each of them
abbrev pub decreases-passes : goal.decreases-passes
decreases-passes g l = core_left l.code (kept_of g.D.Deps.seen l.core)
