use Rattle.std.proofs.Common.{take}
use Rattle.oss_held.specs.Points.{ArePointsOf}
use Rattle.oss_held.proofs.points.points_of.Given as goal

abbrev pub invariant-loop-task : goal.invariant-loop-task
invariant-loop-task l = ArePointsOf l.tree.tasks (take l.task-index l.tasks) l.points
