use Rattle.std.proofs.Common.{◌≡◌, map, take}
use Rattle.oss_free_run.specs.FreeTasks.{newest}
use Rattle.oss_free_run.proofs.task.newest_of.Given as goal

-- those of the tasks so far
abbrev pub invariant-loop-task : goal.invariant-loop-task
invariant-loop-task l = l.found.items ≡ map newest (take l.task-index l.tasks)
