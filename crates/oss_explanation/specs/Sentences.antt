-- The sentences of an explanation: what the task was about to do, and why it may not. Each ends with a full stop and a newline.
-- Read against: `Main reads y at line 7.`; `Task 0.0 has a[4] by in alone.` and `A write wants out or inout.`; `Task 0.0 has released a[0] at line 6.` and `A task neither touches nor
-- names a cell that it has released.`; of 64 nested tasks `The new task would be nested 65 deep, and 64 is the limit.` A task with the
-- label `relax` has it in `Task 0.3 (relax) was created at line 9 by main.`, and in no other sentence.
use Rattle.std.specs.Prelude.{ℕ, ◌==◌, Bool, true, false, if◌then◌else◌, not, List, [], ◌∷◌, ◌++◌, Option, Some, None, codes}
use Rattle.std.specs.Fmt.{decimal}
use Rattle.oss_syntax.specs.declared.access.Op.{Op}
use Rattle.oss_syntax.specs.declared.tree.program.Item.{Item}
use Rattle.oss_pieces.specs.declared.piece.Piece.{Piece}
use Rattle.oss_pieces.specs.declared.piece.Span.{Span}
use Rattle.oss_pieces.specs.Names.{cell_name, pieces_text}
use Rattle.oss_explanation.specs.declared.deed.Are.{Are}
use Rattle.oss_explanation.specs.declared.deed.Are.TheVariants as are
use Rattle.oss_explanation.specs.declared.explained.Deed.{Deed}
use Rattle.oss_explanation.specs.declared.explained.Deed.TheVariants as deed
use Rattle.oss_explanation.specs.declared.explained.Failing.{Failing}
use Rattle.oss_explanation.specs.declared.explained.Later.{Later}
use Rattle.oss_explanation.specs.declared.explained.Later.TheVariants as later
use Rattle.oss_explanation.specs.declared.explained.Reason.{Reason}
use Rattle.oss_explanation.specs.declared.explained.Reason.TheVariants as reason
use Rattle.oss_explanation.specs.declared.explained.Touching.{Touching}
use Rattle.oss_explanation.specs.declared.explained.Touching.TheVariants as touching
use Rattle.oss_explanation.specs.declared.explained.Use.{Use}
use Rattle.oss_explanation.specs.declared.explained.Use.TheVariants as uses
use Rattle.oss_explanation.specs.declared.explained.Word.{Word}
use Rattle.oss_explanation.specs.Labels.{LabelsSeen, label_text}
use Rattle.oss_explanation.specs.Words.{op_text, task_text, who_text, word_text}

-- how a sentence ends
abbrev pub stop : List ℕ
stop = codes ".\n"

-- `at line N` and the end of a sentence
abbrev pub at_line : ℕ → List ℕ
at_line n = codes " at line " ++ decimal n ++ stop

-- at most eight pieces, and how many cells the others have
abbrev pub cells_text : List Item → List Piece → List ℕ
cells_text all ps = pieces_text all 8 ps

-- what the task does, behind its name and before the line; the task that it would create next has this point
abbrev pub deed_text : List Item → List ℕ → Deed → List ℕ
deed_text all next deed.Ticks = codes " makes a tick"
deed_text all next (deed.Reads c) = codes " reads " ++ cell_name all c
deed_text all next (deed.Writes c) = codes " writes " ++ cell_name all c
deed_text all next (deed.Folds c o) = codes " folds into " ++ cell_name all c ++ codes " by " ++ op_text o ++ codes "="
deed_text all next deed.Begins = codes " creates a task"
deed_text all next deed.Creates = codes " creates " ++ task_text next
deed_text all next (deed.Releases ps) = codes " releases " ++ cells_text all ps
deed_text all next (deed.WaitsOn ps) = codes " waits on " ++ cells_text all ps
deed_text all next deed.Calls = codes " calls a function"
deed_text all next deed.Divides = codes " divides by 0"
deed_text all next deed.Shifts = codes " shifts out of range"
deed_text all next deed.Misses = codes " names a cell or a section outside of its global"

-- a span with more than one in it
abbrev pub is_wide : Span → Bool
is_wide s = not (s.first == s.last)

-- Pieces with more than one cell.
abbrev pub are_several : List Piece → Bool
are_several [] = false
are_several (p ∷ []) = if is_wide p.rows then true else is_wide p.columns
are_several (p ∷ q ∷ more) = true

-- the words before cells that fail so
abbrev pub are_words : Are → List ℕ
are_words are.Mixed = codes "Mixed are "
are_words are.Released = codes "Released are "
are_words are.NotCovered = codes "Not covered are "

-- all cells that fail so: nothing where it is one alone
abbrev pub failing_text : List Item → Are → List Piece → List ℕ
failing_text all how ps = if are_several ps then are_words how ++ cells_text all ps ++ stop else []

-- what a task has of a cell: `Task 0.0 has a[4] by in.`
abbrev pub has_text : List ℕ → List ℕ → Word → List ℕ
has_text who cell w = who ++ codes " has " ++ cell ++ codes " by " ++ word_text w

-- what a task has of a cell that is not enough
abbrev pub lacks_text : List Item → List ℕ → ℕ → Option Word → List ℕ
lacks_text all p c None = codes "No clause of " ++ task_text p ++ codes " names " ++ cell_name all c ++ stop
lacks_text all p c (Some w) = has_text (who_text p) (cell_name all c) w ++ codes " alone.\n"

-- what a touch wants
abbrev pub wants_text : Touching → List ℕ
wants_text touching.Reading = codes "A read wants in, out or inout.\n"
wants_text touching.Writing = codes "A write wants out or inout.\n"
wants_text (touching.Folding o) = codes "A fold by " ++ op_text o ++ codes "= wants reduction(" ++ op_text o ++ codes "), out or inout.\n"

-- The rule that a touch without a right breaks: a weak clause gives none to the task itself.
abbrev pub touch_rule : Touching → Option Word → List ℕ
touch_rule touch None = wants_text touch
touch_rule touch (Some w) = if w.strong then wants_text touch else codes "A weak clause is for the tasks below, and not for the task itself.\n"

-- the rule of what a child may have
abbrev pub child_rule : Use → List ℕ
child_rule uses.In = codes "A child's in wants in, out or inout of its creator, strong or weak.\n"
child_rule (uses.Reduction o) = codes "A child's reduction(" ++ op_text o ++ codes ") wants reduction(" ++ op_text o ++ codes "), out or inout of its creator, strong or weak.\n"
child_rule _ = codes "A child's out or inout wants out or inout of its creator, strong or weak.\n"

-- the rule of what may be released
abbrev pub release_rule : Use → List ℕ
release_rule uses.In = codes "To release in wants in, out or inout, strong or weak.\n"
release_rule _ = codes "To release out or inout wants out or inout, strong or weak.\n"

-- The rule of what is lent: a child that reads hinders a write, and any other one each touch.
abbrev pub lent_rule : Use → List ℕ
lent_rule uses.In = codes "What a child may read is not written before a wait.\n"
lent_rule _ = codes "What a child may write or fold into is not touched before a wait.\n"

-- words, with ` and by ` before each
abbrev pub further_words : List Word → List ℕ
further_words [] = []
further_words (w ∷ more) = codes " and by " ++ word_text w ++ further_words more

-- words, with ` and by ` between them
abbrev pub words_text : List Word → List ℕ
words_text [] = []
words_text (w ∷ more) = word_text w ++ further_words more

-- the later children that hinder a touch too
abbrev pub later_text : Later → List ℕ
later_text later.None = []
later_text (later.One p) = codes "1 later child hinders it too: " ++ task_text p ++ stop
later_text (later.Several n p q) = decimal n ++ codes " later children hinder it too: " ++ task_text p ++ codes " to " ++ task_text q ++ stop

-- how a task came to be: here alone its label is told, if it has one
abbrev pub created_text : Option (List ℕ) → List ℕ → ℕ → List ℕ → List ℕ
created_text label child line creator = who_text child ++ label_text label ++ codes " was created at line " ++ decimal line ++ codes " by " ++ task_text creator

-- that a task has not waited for a cell
abbrev pub waits_text : List Item → List ℕ → ℕ → List ℕ
waits_text all p c = who_text p ++ codes " has not waited for " ++ cell_name all c ++ codes " since.\n"

-- why a touch of a cell is refused that is lent to this child of the task, which has this label, if it has one
abbrev pub lent_text : List Item → Option (List ℕ) → List ℕ → ℕ → List ℕ → ℕ → Word → Later → List ℕ
lent_text all label p c child line w others = has_text (who_text child) (cell_name all c) w ++ stop
    ++ created_text label child line p ++ stop
    ++ waits_text all p c ++ later_text others ++ lent_rule w.named

-- a cell and the word that names it
abbrev pub named_text : List Item → ℕ → Word → List ℕ
named_text all c w = cell_name all c ++ codes " by " ++ word_text w ++ stop

-- how the new task would have a cell
abbrev pub wants_it_text : List Item → List ℕ → ℕ → Word → List ℕ
wants_it_text all next c w = who_text next ++ codes " would have " ++ named_text all c w

-- what the task has of the first cell that is not covered, and all that are not
abbrev pub uncovered_text : List Item → List ℕ → Option Word → Failing → List ℕ
uncovered_text all p held f = lacks_text all p f.first held ++ failing_text all are.NotCovered f.all

-- by which words the clauses of the new task name a cell
abbrev pub mixed_words : List Item → List ℕ → List Word → ℕ → List ℕ
mixed_words all next ws c = codes "The clauses of " ++ task_text next ++ codes " name " ++ cell_name all c ++ codes " by " ++ words_text ws ++ stop

-- which words the clauses of the new task have for one cell that do not go together
abbrev pub mixed_text : List Item → List ℕ → List Word → Failing → List ℕ
mixed_text all next ws f = mixed_words all next ws f.first ++ failing_text all are.Mixed f.all ++ codes "A reduction goes with no other mode or operator on one cell.\n"

-- where the task has released a cell
abbrev pub released_at : List Item → List ℕ → ℕ → ℕ → List ℕ
released_at all p c line = who_text p ++ codes " has released " ++ cell_name all c ++ at_line line

-- where the task has released the first of these cells
abbrev pub released_text : List Item → List ℕ → ℕ → Failing → List ℕ
released_text all p line f = released_at all p f.first line ++ failing_text all are.Released f.all ++ codes "A task neither touches nor names a cell that it has released.\n"

-- a fold into a cell: `x += VALUE`
abbrev pub fold_text : List Item → ℕ → Op → List ℕ
fold_text all c o = cell_name all c ++ codes " " ++ op_text o ++ codes "= VALUE alone.\n"

-- how a reduction touches a cell
abbrev pub reduction_rule : List Item → ℕ → Op → List ℕ
reduction_rule all c o = codes "Under reduction(" ++ op_text o ++ codes ") a task touches " ++ cell_name all c ++ codes " by " ++ fold_text all c o

-- why a touch of a cell under a reduction is refused
abbrev pub reduction_text : List Item → List ℕ → ℕ → Op → List ℕ
reduction_text all p c o = who_text p ++ codes " has " ++ cell_name all c ++ codes " by reduction(" ++ op_text o ++ codes ").\n" ++ reduction_rule all c o

-- that a cell under `out` has no value yet
abbrev pub unwritten_text : List Item → List ℕ → ℕ → List ℕ
unwritten_text all p c = who_text p ++ codes " has " ++ cell_name all c ++ codes " by out alone.\nIt has neither written " ++ cell_name all c ++ codes " nor created a child that may write it.\n"
    ++ codes "Under out a task writes a cell before it reads it or folds into it; inout wants no write first.\n"

-- that the fuel is used up
abbrev pub fuel_text : ℕ → List ℕ
fuel_text n = codes "Its fuel of " ++ decimal n ++ codes " ticks is used up.\n"
    ++ codes "A statement, a test of a loop and a call make a tick each; --fuel sets the fuel of each task.\n"

-- why the task at this point may not do it; the one that it would create next has that point
abbrev pub reason_text : List Item → LabelsSeen → List ℕ → List ℕ → Reason → List ℕ
reason_text all labels p next (reason.OutOfFuel n) = fuel_text n
reason_text all labels p next reason.TooManyFrames = codes "It has 256 frames open, which is the limit.\n"
reason_text all labels p next reason.TooDeep = codes "The new task would be nested 65 deep, and 64 is the limit.\n"
reason_text all labels p next reason.TooManyTasks = codes "It has created 65535 tasks, which is the limit.\n"
reason_text all labels p next reason.Plain = []
reason_text all labels p next reason.ShiftRange = codes "A shift is by 0 to 63.\n"
reason_text all labels p next (reason.MixedAccess ws f) = mixed_text all next ws f
reason_text all labels p next (reason.Released line f) = released_text all p line f
reason_text all labels p next (reason.NoRight c touch held) = lacks_text all p c held ++ touch_rule touch held
reason_text all labels p next (reason.CreationNotCovered w held f) = wants_it_text all next f.first w ++ (uncovered_text all p held f ++ child_rule w.named)
reason_text all labels p next (reason.ReleaseNotCovered w held f) = (codes "It releases " ++ named_text all f.first w) ++ (uncovered_text all p held f ++ release_rule w.named)
reason_text all labels p next (reason.WaitNotCovered f) = uncovered_text all p None f ++ codes "A task waits on cells that its own clauses name.\n"
reason_text all labels p next (reason.BadReduction c o) = reduction_text all p c o
reason_text all labels p next (reason.Lent c child line entry w others) = lent_text all (labels entry) p c child line w others
reason_text all labels p next (reason.Unwritten c) = unwritten_text all p c
