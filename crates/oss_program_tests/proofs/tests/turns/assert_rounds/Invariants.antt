use Rattle.oss_core.specs.Cores.{kept_of}
use Rattle.oss_core.specs.Kept.{IsRunning}
use Rattle.oss_wakeups.specs.Watches.{IsWatch}
use Rattle.oss_program_tests.proofs.tests.turns.assert_rounds.Given as goal

-- the core stands for some state, and it is right who is awake
abbrev pub invariant-loop-numbers : goal.invariant-loop-numbers
invariant-loop-numbers g l = record {
  running : IsRunning l.code (kept_of g.D.Deps.seen l.core);
  watch : IsWatch (kept_of g.D.Deps.seen l.core) l.watch;
}
