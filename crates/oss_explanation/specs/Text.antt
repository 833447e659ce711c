-- The text of an explanation, one sentence a line: what the task was about to do, why it may not, how it came to be, what its clauses name, and what a new task would have.
-- Read against: `long x; int main() { task weakin(x) printf x }` with the directive on line 3 and the print on line 4 has the lines `Task 0.0 reads x at line 4.`, `Task 0.0 has x by weakin
-- alone.`, `A weak clause is for the tasks below, and not for the task itself.`, `Task 0.0 was created at line 3 by main.` and `Task 0.0 has x by weakin.` With
-- `label("a task")` in the directive the fourth line is `Task 0.0 (a task) was created at line 3 by main.`, and the others are the same. With `long x = 64;` the shift `1 << x` on line 4 of main has
-- `Main shifts by 64 at line 4.` and `A shift is by 0 to 63.`, and without what failed `Main shifts out of range at line 4.` in place of the first.
use Rattle.std.specs.Prelude.{ℕ, Bool, true, false, if◌then◌else◌, List, [], ◌∷◌, ◌++◌, Option, Some, None, codes}
use Rattle.std.specs.List.{flat_map}
use Rattle.oss_syntax.specs.declared.tree.program.Item.{Item}
use Rattle.oss_explanation.specs.declared.explained.Explained.{Explained}
use Rattle.oss_explanation.specs.declared.explained.Held.{Held}
use Rattle.oss_explanation.specs.declared.explained.Link.{Link}
use Rattle.oss_machine.specs.declared.failure.Failure.{Failure}
use Rattle.oss_explanation.specs.Failures.{failure_text, limit_text}
use Rattle.oss_explanation.specs.Labels.{LabelsSeen}
use Rattle.oss_explanation.specs.Sentences.{at_line, cells_text, created_text, deed_text, reason_text, stop}
use Rattle.oss_explanation.specs.Words.{above, is_child, task_text, who_text, word_text}

-- what is said of a task that runs in the body of its creator
abbrev pub included_text : Bool → List ℕ
included_text true = codes ", and is included in it"
included_text false = []

-- how a task came to be
abbrev pub link_text : LabelsSeen → Link → List ℕ
link_text labels l = created_text (labels l.entry) l.task l.line (above l.task) ++ included_text l.included ++ stop

-- what a task has by one word, or would have
abbrev pub held_text : List Item → List ℕ → List ℕ → Held → List ℕ
held_text all who has h = who ++ has ++ cells_text all h.cells ++ codes " by " ++ word_text h.word ++ stop

-- what it has by all words
abbrev pub all_held_text : List Item → List ℕ → List ℕ → List Held → List ℕ
all_held_text all who has [] = []
all_held_text all who has (h ∷ more) = held_text all who has h ++ all_held_text all who has more

-- what a task other than main has
abbrev pub child_holds_text : List Item → List ℕ → List Held → List ℕ
child_holds_text all p [] = codes "No clause of " ++ task_text p ++ codes " names a cell.\n"
child_holds_text all p (h ∷ more) = all_held_text all (who_text p) (codes " has ") (h ∷ more)

-- What the task has; nothing is said of main, which has all cells.
abbrev pub holds_text : List Item → List ℕ → List Held → List ℕ
holds_text all p hs = if is_child p then child_holds_text all p hs else []

-- what the task does, behind its name and before the line: what failed, where that is known
abbrev pub act_text : List Item → Explained → Option Failure → List ℕ
act_text all e None = deed_text all e.next e.deed
act_text all e (Some failure) = failure_text all failure

-- why it may not
abbrev pub why_text : List Item → LabelsSeen → Explained → Option Failure → List ℕ
why_text all labels e None = reason_text all labels e.task e.next e.reason
why_text all labels e (Some failure) = limit_text all failure

-- the text of an explanation of a program whose tasks have these labels, and of what failed, where that is known
abbrev pub explanation_text : List Item → LabelsSeen → Explained → Option Failure → List ℕ
explanation_text all labels e failure = who_text e.task ++ act_text all e failure ++ at_line e.line
    ++ why_text all labels e failure
    ++ flat_map (link_text labels) e.chain
    ++ holds_text all e.task e.holds
    ++ all_held_text all (who_text e.next) (codes " would have ") e.wants
