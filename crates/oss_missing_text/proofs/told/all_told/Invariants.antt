use Rattle.std.proofs.Common.{◌≡◌, ◌++◌, drop, map}
use Rattle.oss_missing_text.specs.Lines.{told_of}
use Rattle.oss_missing_text.proofs.told.all_told.Given as goal

-- what is left goes behind what is told
abbrev pub invariant-loop-task : goal.invariant-loop-task
invariant-loop-task l = l.told.items ++ map (told_of l.names) (drop l.task-index l.tasks) ≡ map (told_of l.names) l.tasks
