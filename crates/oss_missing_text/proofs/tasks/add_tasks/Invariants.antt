use Rattle.std.proofs.Common.{◌≡◌, ◌++◌, drop}
use Rattle.oss_missing_text.specs.Text.{lines_from}
use Rattle.oss_missing_text.proofs.tasks.add_tasks.Given as goal

-- what is left goes behind what is written
abbrev pub invariant-loop-place : goal.invariant-loop-place
invariant-loop-place l = l.text.items ++ lines_from l.names l.table l.place (drop l.place l.tasks) ≡ l.initial.text.items ++ lines_from l.names l.table 0 l.tasks
