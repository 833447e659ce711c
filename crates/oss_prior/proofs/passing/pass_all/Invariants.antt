use Rattle.std.specs.Prelude.{ℕ}
use Rattle.oss_core.specs.CoreLeft.{core_left}
use Rattle.oss_core.specs.Cores.{kept_of, tasks_in}
use Rattle.oss_core.specs.Turns.{KeepsTasks}
use Rattle.oss_core.specs.Kept.{Kept}
use Rattle.oss_wakeups.specs.Asides.{IsWatchBut, StoodAside}
use Rattle.oss_prior.specs.Choosing.{KeepsBodies}
use Rattle.oss_prior.specs.Turning.{HavePassesGone}
use Rattle.oss_prior.proofs.passing.pass_all.Given as goal

-- so far passes were made that gave something up
abbrev pub invariant-passes : goal.invariant-passes
invariant-passes g l = record {
  gone : HavePassesGone l.code (kept_of g.D.Deps.seen l.fn.core) (kept_of g.D.Deps.seen l.core);
  watch : (from : Kept) (task : ℕ) → IsWatchBut (StoodAside from task) (kept_of g.D.Deps.seen l.fn.core) l.fn.watch → IsWatchBut (StoodAside from task) (kept_of g.D.Deps.seen l.core) l.watch;
  keeps : KeepsTasks (tasks_in l.fn.core) (tasks_in l.core);
  bodies : KeepsBodies (kept_of g.D.Deps.seen l.fn.core) (kept_of g.D.Deps.seen l.core);
}

-- what is left to do falls with each of them
abbrev pub decreases-passes : goal.decreases-passes
decreases-passes g l = core_left l.code (kept_of g.D.Deps.seen l.core)
