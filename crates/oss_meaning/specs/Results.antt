-- What the sequential run of a program gives (C11 5.1.2.3, each touch judged by the directives of OmpSs-2): its answer, how many tasks it had, and how
-- many entries a table of their accesses would have. It is the sequential run of the program's meaning as a program of bodies, from main with
-- this much fuel and the cells as they are at the start.
-- Read against: with `long x, y = 3; int main() { task out(x) x = y; taskwait; printf("%ld", x); }` the cells at the start are 0 and 3; the answer is Done with the output `3` and
-- the cells 3 and 3; there are 2 tasks, and 3 entries: one for main, one for the task and one for its cell.
use Rattle.std.specs.Prelude.{◌≡◌, ℕ, zero, suc, ◌+◌, ◌-◌, ◌^◌, Bool, true, false, ◌||◌, if◌then◌else◌, min, List, [], ◌∷◌, ◌++◌, length, replicate, pos}
use Rattle.oss_syntax.specs.declared.fault.FaultKind.{FaultKind}
use Rattle.oss_syntax.specs.declared.tree.program.Item.{Item}
use Rattle.oss_syntax.specs.declared.tree.program.Item.TheVariants as items
use Rattle.oss_grammar.specs.Layout.{cells_in, cells_of}
use Rattle.oss_grammar.specs.Values.{kept}
use Rattle.oss_model.specs.Agreement.{main_start}
use Rattle.oss_model.specs.Bodies.{Order, Program, Start}
use Rattle.oss_model.specs.Bodies.Act.{Fault, Over}
use Rattle.oss_model.specs.Context.{right_of}
use Rattle.oss_model.specs.Machine.{State, Task, same_path}
use Rattle.oss_model.specs.Moves.{act_now}
use Rattle.oss_model.specs.Rights.{Holds, Right}
use Rattle.oss_model.specs.Sequence.{IsAtEnd, Running, Sequential}
use Rattle.oss_model.specs.declared.answer.Answer.{Answer}
use Rattle.oss_model.specs.declared.answer.Answer.TheVariants as answers
use Rattle.oss_meaning.specs.Expressions.{TaskBody, TreeScript}
use Rattle.oss_meaning.specs.Meaning.{asks_of}

-- the cells at the start: each keeps what its type can of its first value, and the cells of an array are 0
abbrev pub first_cells : List Item → List ℕ
first_cells [] = []
first_cells (items.Global d ∷ rest) = replicate (cells_of d.cells) (kept d.kind d.first) ++ first_cells rest
first_cells (items.Function f ∷ rest) = first_cells rest

-- main as a task: it runs the function `main`, and no clause says anything of it
abbrev pub main_order : Order TreeScript
main_order = record { script = record { body = TaskBody.main; copies = [] }; clauses = []; when = true; last = false; wait = false; priority = pos 0 }

-- how main starts, with this much fuel
abbrev pub main_of : List Item → ℕ → Start TreeScript
main_of all fuel = main_start main_order (cells_in all) fuel

-- whether one of these paths is this one
abbrev pub is_among : List (List ℕ) → List ℕ → Bool
is_among [] path = false
is_among (p ∷ rest) path = same_path p path || is_among rest path

-- the weights of tasks, summed: of several with one path the first is the task, as it is where a task is found by its path
abbrev pub weighed : {S : Type 0} → (Task S → ℕ) → List (List ℕ) → List (Task S) → ℕ
weighed weight seen [] = 0
weighed weight seen (t ∷ rest) =
    if is_among seen t.body.start.path then weighed weight seen rest
    else weight t + weighed weight (t.body.start.path ∷ seen) rest

-- how many tasks a state has: main and each task that was created and not included; the count stays at its greatest value
abbrev pub tasks_in : {S : Type 0} → State S → ℕ
tasks_in s = min (weighed (λ t. 1) [] s.tasks) (2 ^ 64 - 1)

-- one for a cell to which a task has a right
abbrev pub one_held : Right → ℕ
one_held (Holds mode strong) = 1
one_held _ = 0

-- to how many of the first so many cells a task has a right from its creation on
abbrev pub cells_held : {S : Type 0} → Task S → ℕ → ℕ
cells_held t zero = 0
cells_held t (suc n) = one_held (right_of t.body.start.context n) + cells_held t n

-- the entries of a task, where there are so many cells: one for itself and one for each cell of its accesses; main has one alone
abbrev pub entries_of : {S : Type 0} → ℕ → Task S → List ℕ → ℕ
entries_of n t [] = 1
entries_of n t (k ∷ path) = 1 + cells_held t n

-- the entries of all tasks of a state
abbrev pub entries_in : {S : Type 0} → State S → ℕ
entries_in s = weighed (λ t. entries_of (length s.cells) t t.body.start.path) [] s.tasks

-- What a run gives.
pub record Outcome : Type 0 where
  pub answer : Answer
  pub tasks : ℕ
  pub entries : ℕ

-- The run is at its end, and gives this: main has ended, or the task that runs stands before a fault.
pub data IsOutcome {S : Type 0} (P : Program S) (main : Start S) (cells : List ℕ) : Outcome → Type 0 where
  ends : {z : Running S} → Sequential P main cells z → (end : IsAtEnd P z) → act_now P end.task.body ≡ Over
      → IsOutcome P main cells (record { answer = answers.Done z.printed z.state.cells; tasks = tasks_in z.state; entries = entries_in z.state })
  fails : {z : Running S} {kind : FaultKind} {line : ℕ} {key : List ℕ} → Sequential P main cells z → (end : IsAtEnd P z) → act_now P end.task.body ≡ Fault kind line key
      → IsOutcome P main cells (record { answer = answers.Fault kind line z.printed; tasks = tasks_in z.state; entries = entries_in z.state })

-- The sequential run of a program, with this much fuel for each task, gives this.
abbrev pub IsOutcomeOf : List Item → ℕ → Outcome → Type 0
IsOutcomeOf all fuel outcome = IsOutcome (asks_of all) (main_of all fuel) (first_cells all) outcome
