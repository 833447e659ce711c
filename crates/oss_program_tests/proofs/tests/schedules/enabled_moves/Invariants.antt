use Rattle.std.proofs.Common.{◌≡◌}
use Rattle.oss_core.specs.Cores.{kept_of}
use Rattle.oss_program_tests.proofs.tests.schedules.enabled_moves.Given as goal

-- the core stays
abbrev pub invariant-loop-number : goal.invariant-loop-number
invariant-loop-number g l = kept_of g.D.Deps.seen l.core ≡ kept_of g.D.Deps.seen l.fn.core
