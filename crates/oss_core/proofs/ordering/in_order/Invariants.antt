use Rattle.std.proofs.Common.{take}
use Rattle.oss_core.proofs.PlacedLemmas.{ArePlaced}
use Rattle.oss_core.proofs.ordering.in_order.Given as goal

abbrev pub invariant-loop-task : goal.invariant-loop-task
invariant-loop-task l = ArePlaced l.tree.tasks (take l.task-index l.tasks) l.placed.items
