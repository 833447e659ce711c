-- The text of what is missing: task by task, of each its clauses that are missing, those that have to give way, and what it does too early or too late. A line that reads alike of several tasks of one line is told at the first of them, which counts the others.
-- Read against: of four tasks of line 4 that all lack `reduction(+: n)` the first has `Task 0.0 (line 4) lacks reduction(+: n); 3 more tasks of line 4 do too.`, and the others have no line; of two it has `; 1 more task of line 4 does too.`, and of one nothing but a
-- full stop. Where main has ended and no task lacks anything, the text is `nothing is missing`; after a fault it is empty then.
use Rattle.std.specs.Prelude.{ℕ, ◌+◌, ◌==◌, if◌then◌else◌, List, [], ◌∷◌, ◌++◌, map, Option, Some, None, codes}
use Rattle.std.specs.Fmt.{decimal}
use Rattle.std.specs.List.{flat_map}
use Rattle.oss_syntax.specs.declared.tree.program.Item.{Item}
use Rattle.oss_explanation.specs.Words.{who_text}
use Rattle.oss_missing_lines.specs.declared.missing.Missing.{Missing}
use Rattle.oss_missing_lines.specs.declared.missing.RunFault.{RunFault}
use Rattle.oss_missing_lines.specs.declared.missing.TaskMissing.{TaskMissing}
use Rattle.oss_missing_text.specs.Counting.{later_alike}
use Rattle.oss_missing_text.specs.Lines.{late_line, told_of}

-- what is counted
abbrev pub more_tasks : ℕ → List ℕ
more_tasks n = if n == 1 then codes " more task" else codes " more tasks"

-- how many further tasks there are
abbrev pub further_text : ℕ → List ℕ
further_text n = codes "; " ++ decimal n ++ more_tasks n

-- that one or several lack the same
abbrev pub too_text : ℕ → List ℕ
too_text n = if n == 1 then codes " does too.\n" else codes " do too.\n"

-- how a line ends where so many later tasks of its line have it too
abbrev pub alike_text : ℕ → ℕ → List ℕ
alike_text line n = if n == 0 then codes ".\n" else further_text n ++ codes " of line " ++ decimal line ++ too_text n

-- a line that so many later tasks have too; it has none where an earlier task tells it
abbrev pub told_line : TaskMissing → Option ℕ → List ℕ → List ℕ
told_line t None words = []
told_line t (Some n) words = who_text t.task ++ words ++ alike_text t.line n

-- the same of the task with this number, where all tasks have these lines
abbrev pub told_at : List (List (List ℕ)) → ℕ → TaskMissing → List ℕ → List ℕ
told_at told place t words = told_line t (later_alike told place words) words

-- all lines of the task with this number
abbrev pub task_lines : List Item → List (List (List ℕ)) → ℕ → TaskMissing → List ℕ
task_lines all told place t = flat_map (told_at told place t) (told_of all t) ++ flat_map (late_line all t) t.late

-- those of the tasks from this number on
abbrev pub lines_from : List Item → List (List (List ℕ)) → ℕ → List TaskMissing → List ℕ
lines_from all told place [] = []
lines_from all told place (t ∷ rest) = task_lines all told place t ++ lines_from all told (place + 1) rest

-- those of all tasks
abbrev pub lines_text : List Item → List TaskMissing → List ℕ
lines_text all ts = lines_from all (map (told_of all) ts) 0 ts

-- the lines, or else, where main has ended, that nothing is missing
abbrev pub or_nothing : Option RunFault → List ℕ → List ℕ
or_nothing None [] = codes "nothing is missing\n"
or_nothing None (byte ∷ more) = byte ∷ more
or_nothing (Some f) text = text

-- the text of what is missing, over these globals
abbrev pub missing_text : List Item → Missing → List ℕ
missing_text all m = or_nothing m.fault (lines_text all m.tasks)
