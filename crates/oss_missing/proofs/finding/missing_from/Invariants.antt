use Rattle.std.proofs.Common.{◌∷◌, ◌++◌, [], List, drop}
use Rattle.std.specs.Prelude.{reverse}
use Rattle.oss_missing_lines.specs.declared.missing.TaskMissing.{TaskMissing}
use Rattle.oss_missing.specs.Making.{AddsMade, AreMade}
use Rattle.oss_missing.proofs.finding.missing_from.Given as goal

-- what is made of the tasks that are left goes behind what is there
abbrev pub invariant-loop-task : goal.invariant-loop-task
invariant-loop-task l =
    (rest : List TaskMissing) → AreMade l.layout (drop l.task-index l.tasks) (reverse l.lines.items) rest
    → AddsMade l.layout l.tasks (reverse l.fn.lines.items) (l.fn.main ∷ []) (l.found.items ++ rest)
