use Rattle.std.proofs.Common.{◌≡◌}
use Rattle.oss_held.specs.Points.{numbers_to}
use Rattle.oss_held.proofs.points.all_tasks.Given as goal

abbrev pub invariant-loop-at : goal.invariant-loop-at
invariant-loop-at l = l.tasks.items ≡ numbers_to l.at
