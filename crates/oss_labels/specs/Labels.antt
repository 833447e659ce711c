-- The labels of tasks (OmpSs-2, the clause label of the task directive), by the text of a program: a task has the label of its pragma. A task is
-- named by its body: a task function, or the statement behind a pragma, each by its number in text order.
-- Read against: of `#pragma oss task label(f) void f() {..} int main() { f(); #pragma oss task label("two") ; #pragma oss task ; }` the function 0 has the label `f`, the
-- statement 0 has `two`, and the statement 1, the function 1 and `main` have none. In the list of labels there are two.
use Rattle.std.specs.Prelude.{◌≡◌, ℕ, List, [], ◌∷◌, ◌++◌, map, Option, Some, None, slice_get, slice_index_or}
use Rattle.oss_syntax.specs.declared.tree.pragma.Clause.{Clause}
use Rattle.oss_syntax.specs.declared.tree.pragma.Clause.TheVariants as clause
use Rattle.oss_syntax.specs.declared.tree.pragma.TaskMark.{TaskMark}
use Rattle.oss_syntax.specs.declared.tree.program.Function.{Function}
use Rattle.oss_syntax.specs.declared.tree.program.Item.{Item}
use Rattle.oss_syntax.specs.declared.tree.stmt.Stmt.{Stmt}
use Rattle.oss_syntax.specs.declared.tree.stmt.StmtKind.TheOpen.{StmtKind-F, Stmt-F}
use Rattle.oss_syntax.specs.declared.tree.stmt.StmtKind.TheOpen as open_stmt
use Rattle.oss_syntax.specs.declared.tree.stmt.StmtKind.TheFolds.{fold-Stmt}
use Rattle.oss_meaning.specs.Expressions.{TaskBody}
use Rattle.oss_meaning.specs.Names.{functions_of}
use Rattle.oss_lower_laws.specs.Lowered.{place_of}
use Rattle.oss_labels.specs.declared.labels.Labelled.{Labelled}
use Rattle.oss_labels.specs.Lists.{HasLabel, Rise}

-- the label that clauses give, if they give one
abbrev pub label_in : List Clause → Option (List ℕ)
label_in [] = None
label_in (clause.Label text ∷ rest) = Some text
label_in (c ∷ rest) = label_in rest

-- The labels of the task statements in a statement, `None` for one without. They stand in the order of the text; and in that in which the
-- creations of the tasks are written in the code, which differs where the last part of a `for` is written behind its body.
pub record StmtLabels : Type 0 where
  pub in_text : List (Option (List ℕ))
  pub in_code : List (Option (List ℕ))

-- no task statement
abbrev pub no_labels : StmtLabels
no_labels = record { in_text = []; in_code = [] }

-- those of one statement, and then those of another
abbrev pub both_labels : StmtLabels → StmtLabels → StmtLabels
both_labels a b = record { in_text = a.in_text ++ b.in_text; in_code = a.in_code ++ b.in_code }

-- those of statements in text order
abbrev pub labels_in_order : List StmtLabels → StmtLabels
labels_in_order [] = no_labels
labels_in_order (l ∷ rest) = both_labels l (labels_in_order rest)

-- those of a part that may be left out
abbrev pub part_labels : Option StmtLabels → StmtLabels
part_labels None = no_labels
part_labels (Some l) = l

-- those of the last part of a loop, and of its body: the body is written first
abbrev pub loop_labels : StmtLabels → StmtLabels → StmtLabels
loop_labels last body = record { in_text = last.in_text ++ body.in_text; in_code = body.in_code ++ last.in_code }

-- that of a task statement, and those of the task statements in its body
abbrev pub task_labels : List Clause → StmtLabels → StmtLabels
task_labels clauses body = record { in_text = label_in clauses ∷ body.in_text; in_code = label_in clauses ∷ body.in_code }

-- Those of each kind of statement, from those of the statements in it. The line plays no part.
abbrev pub labels_step : StmtKind-F (ℕ → StmtLabels) StmtLabels → ℕ → StmtLabels
labels_step (open_stmt.Block inner) line = labels_in_order inner
labels_step (open_stmt.If e side other) line = both_labels side (part_labels other)
labels_step (open_stmt.While e body) line = body
labels_step (open_stmt.For first test last body) line = both_labels (part_labels first) (loop_labels (part_labels last) body)
labels_step (open_stmt.Task mark body) line = task_labels mark.clauses body
labels_step _ line = no_labels

-- those of a whole statement
abbrev pub stmt_labels : Stmt → StmtLabels
stmt_labels = fold-Stmt (ℕ → StmtLabels) StmtLabels labels_step (λ s. s.what s.line)

-- those of statements in text order
abbrev pub body_labels : List Stmt → StmtLabels
body_labels ss = labels_in_order (map stmt_labels ss)

-- those of functions in text order
abbrev pub statement_labels : List Function → List (Option (List ℕ))
statement_labels [] = []
statement_labels (f ∷ rest) = (body_labels f.body).in_text ++ statement_labels rest

-- the label of a pragma, if it stands there
abbrev pub mark_label : Option TaskMark → Option (List ℕ)
mark_label None = None
mark_label (Some mark) = label_in mark.clauses

-- that of a task function, if it is there
abbrev pub function_label : Option Function → Option (List ℕ)
function_label None = None
function_label (Some f) = mark_label f.mark

-- The label of the task with this body. The task `main` is created by no pragma.
abbrev pub label_of : List Item → TaskBody → Option (List ℕ)
label_of all TaskBody.main = None
label_of all (TaskBody.function number) = function_label (slice_get (functions_of all) number)
label_of all (TaskBody.statement number) = slice_index_or (statement_labels (functions_of all)) number None

-- At this place of the code a body of the program begins, which has this label.
pub record IsLabelled (all : List Item) (entry : ℕ) (text : List ℕ) : Type 0 where
  pub body : TaskBody
  pub label_is : label_of all body ≡ Some text
  pub entry_is : entry ≡ place_of all body

-- The list has the label of each body that has one, at the place of the body in the code, and nothing else; the places rise.
pub record AreLabelsOf (all : List Item) (ls : List Labelled) : Type 0 where
  pub rise : Rise 0 ls
  pub each : (body : TaskBody) (text : List ℕ) → label_of all body ≡ Some text → HasLabel ls (place_of all body) text
  pub only : (entry : ℕ) (text : List ℕ) → HasLabel ls entry text → IsLabelled all entry text
