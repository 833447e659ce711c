use Rattle.oss_core.specs.Cores.{kept_of}
use Rattle.oss_core.specs.Kept.{IsRunning}
use Rattle.oss_program_tests.proofs.tests.moves.assert_moves.Given as goal

-- the core stands for some state
abbrev pub invariant-loop-m : goal.invariant-loop-m
invariant-loop-m g l = IsRunning l.code (kept_of g.D.Deps.seen l.core)
