use Rattle.std.proofs.Common.{ℕ, ◌<◌}
use Rattle.oss_kept_tasks.specs.FirstFault.{IsKeyedAt, IsLeastTo}
use Rattle.oss_kept_tasks.proofs.faults.least_fault.Given as goal

-- which of the tasks so far it is, and their keys are points
abbrev pub invariant-loop-at : goal.invariant-loop-at
invariant-loop-at l = record { told : IsLeastTo l.tasks l.at l.least; keyed : (v : ℕ) → v < l.at → IsKeyedAt l.tasks v }
