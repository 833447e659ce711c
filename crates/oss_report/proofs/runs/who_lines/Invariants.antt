use Rattle.std.proofs.Common.{◌≡◌, take}
use Rattle.std.specs.List.{flat_map}
use Rattle.oss_report.specs.Runs.{who_line}
use Rattle.oss_report.proofs.runs.who_lines.Given as goal

-- the lines of the tasks so far
abbrev pub invariant-loop-task : goal.invariant-loop-task
invariant-loop-task l = l.text.items ≡ flat_map (who_line l.worker) (take l.task-index l.task-items)
