use Rattle.oss_core.specs.Cores.{kept_of}
use Rattle.oss_core.specs.Kept.{IsRunning}
use Rattle.oss_run_tests.proofs.core_tests.make_all.Given as goal

-- the core stands for some state
abbrev pub invariant-moves : goal.invariant-moves
invariant-moves g l = IsRunning l.code (kept_of g.D.Deps.seen l.core)
