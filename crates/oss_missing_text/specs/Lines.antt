-- What is told of one task, behind its name: its clauses that are missing, those that have to give way, and what it does too early or too late. The line of its creation belongs to that, and so lines of tasks of two lines never read alike.
-- Read against: behind `Task 0.0` stand ` (line 3) lacks out(a[0:3])` and ` (line 3) wants inout(s) in place of reduction(+)`, and behind `Main` ` lacks a taskwait before it reads x at line 7: task 0.0 (line 3) has x by out.` A fold by `+` into s is told as
-- `folds into s by +=`. A task that uses a[1] and a[2] on line 8, which it has released, has ` (line 3) uses a[1:2] at line 8 after a release.`
use Rattle.std.specs.Prelude.{ℕ, if◌then◌else◌, List, [], ◌++◌, map, codes}
use Rattle.std.specs.Fmt.{decimal}
use Rattle.oss_syntax.specs.declared.tree.program.Item.{Item}
use Rattle.oss_model.specs.Points.{text_of}
use Rattle.oss_pieces.specs.Names.{cell_name, pieces_text}
use Rattle.oss_explanation.specs.declared.explained.Held.{Held}
use Rattle.oss_explanation.specs.declared.explained.Touching.{Touching}
use Rattle.oss_explanation.specs.declared.explained.Touching.TheVariants as touching
use Rattle.oss_explanation.specs.Words.{is_child, op_text, who_text, word_text}
use Rattle.oss_missing_lines.specs.declared.missing.Late.{Late}
use Rattle.oss_missing_lines.specs.declared.missing.Late.TheVariants as late
use Rattle.oss_missing_lines.specs.declared.missing.LateUse.{LateUse}
use Rattle.oss_missing_lines.specs.declared.missing.MissingWait.{MissingWait}
use Rattle.oss_missing_lines.specs.declared.missing.TaskMissing.{TaskMissing}
use Rattle.oss_missing_lines.specs.declared.missing.Wanting.{Wanting}
use Rattle.oss_missing_text.specs.Clauses.{clause_text, old_text}

-- where a task was created: main is created nowhere
abbrev pub born_text : TaskMissing → List ℕ
born_text t = if is_child t.task then codes " (line " ++ decimal t.line ++ codes ")" else []

-- a clause that a task lacks
abbrev pub lack_text : List Item → TaskMissing → Held → List ℕ
lack_text all t h = born_text t ++ codes " lacks " ++ clause_text all h.word h.cells

-- a clause that has to stand in place of others
abbrev pub want_text : List Item → TaskMissing → Wanting → List ℕ
want_text all t w = born_text t ++ codes " wants " ++ clause_text all w.word w.cells ++ codes " in place of " ++ old_text w.old

-- all clauses that a task lacks, and then all that have to stand in place of others
abbrev pub told_of : List Item → TaskMissing → List (List ℕ)
told_of all t = map (lack_text all t) t.lacks ++ map (want_text all t) t.wants

-- how a cell is touched
abbrev pub touch_text : List Item → Touching → ℕ → List ℕ
touch_text all touching.Reading c = codes "reads " ++ cell_name all c
touch_text all touching.Writing c = codes "writes " ++ cell_name all c
touch_text all (touching.Folding o) c = codes "folds into " ++ cell_name all c ++ codes " by " ++ op_text o ++ codes "="

-- the child that hinders a touch: its point is the task's, and behind it the child's number
abbrev pub child_text : TaskMissing → MissingWait → List ℕ
child_text t w = codes ": task " ++ text_of t.task ++ codes "." ++ decimal w.child ++ codes " (line " ++ decimal w.created ++ codes ")"

-- what that child has
abbrev pub has_text : List Item → MissingWait → List ℕ
has_text all w = codes " has " ++ cell_name all w.cell ++ codes " by " ++ word_text w.word ++ codes ".\n"

-- a touch that has to wait
abbrev pub before_text : List Item → MissingWait → List ℕ
before_text all w = codes " lacks a taskwait before it " ++ touch_text all w.touch w.cell ++ codes " at line " ++ decimal w.line

-- a wait that is missing
abbrev pub wait_text : List Item → TaskMissing → MissingWait → List ℕ
wait_text all t w = before_text all w ++ child_text t w ++ has_text all w

-- a use behind a release
abbrev pub late_use_text : List Item → LateUse → List ℕ
late_use_text all u = codes " uses " ++ pieces_text all 8 u.cells ++ codes " at line " ++ decimal u.line ++ codes " after a release.\n"

-- what a task does too early, or too late
abbrev pub late_text : List Item → TaskMissing → Late → List ℕ
late_text all t (late.Wait w) = wait_text all t w
late_text all t (late.Use u) = late_use_text all u

-- the same with the name of the task
abbrev pub late_line : List Item → TaskMissing → Late → List ℕ
late_line all t x = who_text t.task ++ born_text t ++ late_text all t x
