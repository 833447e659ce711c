-- What a program means: what a body of it asks for next, after these answers (C11 5.1.2.3, 6.9.1; OmpSs-2, the task directive).
-- Functions are called and loops turn a bounded number of times here: each call and each turn has a tick, and so an answer, so that one
-- more than there are answers is enough.
-- Read against: `int main() { x = 2; return 1 / x; }` asks for a tick, then for the store of 2, for a tick, for a load and with 2 found for the end. A function
-- `int f() { return 2147483648; }` gives -2147483648.
use Rattle.std.specs.Prelude.{ℕ, zero, suc, ◌+◌, List, [], ◌∷◌, ◌++◌, length, reverse, codes, Option, Some, None, slice_get, slice_set}
use Rattle.oss_syntax.specs.declared.fault.FaultKind.TheVariants as fault
use Rattle.oss_syntax.specs.declared.tree.pragma.Clause.{Clause}
use Rattle.oss_syntax.specs.declared.tree.pragma.TaskMark.{TaskMark}
use Rattle.oss_syntax.specs.declared.tree.program.Function.{Function}
use Rattle.oss_syntax.specs.declared.tree.program.Item.{Item}
use Rattle.oss_syntax.specs.declared.tree.program.Kind.{Kind}
use Rattle.oss_syntax.specs.declared.tree.program.Local.{Local}
use Rattle.oss_model.specs.Bodies.{Program}
use Rattle.oss_model.specs.Bodies.Ask.{End, Fails, Tick}
use Rattle.oss_meaning.specs.declared.names.Found.{Found}
use Rattle.oss_meaning.specs.declared.names.Found.TheVariants as names
use Rattle.oss_meaning.specs.declared.value.Value.{Value}
use Rattle.oss_meaning.specs.declared.value.Value.TheVariants as value
use Rattle.oss_meaning.specs.Clauses.{created}
use Rattle.oss_meaning.specs.Expressions.{Calls, Going, Here, TaskBody, TreeRun, TreeScript, value_at}
use Rattle.oss_meaning.specs.Names.{functions_of, item_found}
use Rattle.oss_meaning.specs.Operators.{kept_value}
use Rattle.oss_meaning.specs.Runs.{ending}
use Rattle.oss_meaning.specs.Statements.{Around, Body, Ways, behind_all, bodies_of_all, in_order, meanings_of}

-- Functions

-- each parameter from this place on keeps what its type can of its argument (C11 6.5.2.2p7)
abbrev pub bound : ℕ → List Local → List Value → List Value
bound slot [] locals = locals
bound slot (p ∷ rest) locals = bound (slot + 1) rest (slice_set locals slot (kept_value p.kind (value_at locals slot)))

-- what a call gives of a value that is returned, as if by assignment (C11 6.8.6.4p3)
abbrev pub gives : Kind → (ℕ → Value → TreeRun) → ℕ → Value → TreeRun
gives result give line v = give line (kept_value result v)

-- a function that comes to its end gives 0; so does a jump that no loop takes, which no accepted program has
abbrev pub out_of : ℕ → (ℕ → Value → TreeRun) → Ways
out_of line give = record { next = λ us. give line (value.Num 0); stop = λ us. give line (value.Num 0); again = λ us. give line (value.Num 0); give = give }

-- where the body of a function stands: behind so many task statements
abbrev pub function_place : List Local → ℕ → Around
function_place params tasks = record { scope = params; tasks = tasks }

-- how many task statements stand before the end of a function, where so many stand before it
abbrev pub tasks_behind : List Item → Function → ℕ → ℕ
tasks_behind all f tasks = (behind_all (meanings_of all f.body) (function_place f.params tasks)).tasks

-- how many stand before the function with this number among these, where so many stand before all of them
abbrev pub tasks_before : List Item → List Function → ℕ → ℕ → ℕ
tasks_before all [] n tasks = tasks
tasks_before all (f ∷ rest) zero tasks = tasks
tasks_before all (f ∷ rest) (suc n) tasks = tasks_before all rest n (tasks_behind all f tasks)

-- a function by its number, with its body at its place
abbrev pub body_run : List Item → ℕ → Here → Function → Ways → List Value → TreeRun
body_run all number here f ways locals = in_order (meanings_of all f.body) (function_place f.params (tasks_before all (functions_of all) number 0)) here ways locals

-- a call of a function with its arguments; where there is none the body ends
abbrev pub function_run : List Item → ℕ → Here → Option Function → List Value → Going
function_run all number here None arguments go = ending End 0
function_run all number here (Some f) arguments go = body_run all number here f (out_of f.line (gives f.result (λ line v. go v))) (bound 0 f.params arguments)

-- Task functions

-- the clauses of a task function's pragma
abbrev pub clauses_of : Option TaskMark → List Clause
clauses_of None = []
clauses_of (Some mark) = mark.clauses

-- no clause calls a task function; where a tree has such a call it fails
abbrev pub no_creation : ℕ → List Value → ℕ → Going
no_creation f vs line go = ending (Fails fault.TooDeep) line

-- where the clauses of a task function are evaluated: in the frame of the call
abbrev pub in_clauses : Calls → ℕ → ℕ → Here
in_clauses call turns frames = record { frames = frames; call = call; create = no_creation; turns = turns }

-- the call of a task function, its arguments evaluated: they are bound, and a creation of its body follows on the line of the call
abbrev pub function_created : List Item → Here → ℕ → Option Function → List Value → ℕ → Going
function_created all here number None arguments line go = go (value.Num 0)
function_created all here number (Some f) arguments line go =
    created all f.params (TaskBody.function number) (clauses_of f.mark) line here (bound 0 f.params arguments) (go (value.Num 0))

-- Calls and turns within bounds

-- where the body of a function is evaluated, with these calls
abbrev pub within : List Item → Calls → ℕ → ℕ → Here
within all call turns frames = record {
  frames = frames;
  call = call;
  create = λ f arguments line go. function_created all (in_clauses call turns frames) f (slice_get (functions_of all) f) arguments line go;
  turns = turns;
}

-- calls, of which at most so many may be open inside each other
abbrev pub calls_of : List Item → ℕ → Calls
calls_of all zero f arguments frames go = ending Tick 0
calls_of all (suc n) f arguments frames go =
    function_run all f (within all (calls_of all n) n frames) (slice_get (functions_of all) f) arguments go

-- Bodies of tasks

-- the bodies of the task statements of these functions, where so many task statements stand before them
abbrev pub bodies_from : List Item → List Function → ℕ → List Body
bodies_from all [] tasks = []
bodies_from all (f ∷ rest) tasks = bodies_of_all (meanings_of all f.body) (function_place f.params tasks) ++ bodies_from all rest (tasks_behind all f tasks)

-- the bodies of all task statements, in text order
abbrev pub bodies_in : List Item → List Body
bodies_in all = bodies_from all (functions_of all) 0

-- the body of a task statement; where there is none it ends
abbrev pub statement_run : Option Body → Here → List Value → TreeRun
statement_run None here copies = ending End 0
statement_run (Some body) here copies = body here copies

-- the ways out of the body of a task, which end it; what `main` gives was evaluated, and is unused
abbrev pub ended_by : ℕ → Ways
ended_by line = out_of line (λ at v. ending End at)

-- a function as the body of a task, its parameters bound at the call
abbrev pub task_function_run : List Item → ℕ → Here → Option Function → List Value → TreeRun
task_function_run all number here None copies = ending End 0
task_function_run all number here (Some f) copies = body_run all number here f (ended_by f.line) copies

-- the number of a function; where there is none, one that no function has
abbrev pub number_of_function : List Item → Found → ℕ
number_of_function all (names.Function f) = f
number_of_function all _ = length (functions_of all)

-- the number of `main`
abbrev pub main_number : List Item → ℕ
main_number all = number_of_function all (item_found all (codes "main"))

-- What a body runs, where it may open so many calls and make so many turns of each loop.
abbrev pub script_run : List Item → Here → TreeScript → TreeRun
script_run all here s = elim s.body [
  | TaskBody.main ↦ task_function_run all (main_number all) here (slice_get (functions_of all) (main_number all)) s.copies
  | TaskBody.function f ↦ task_function_run all f here (slice_get (functions_of all) f) s.copies
  | TaskBody.statement k ↦ statement_run (slice_get (bodies_in all) k) here s.copies
]

-- the same with so many calls in each other and so many turns, and with one frame
abbrev pub run_within : List Item → ℕ → TreeScript → TreeRun
run_within all n s = script_run all (within all (calls_of all n) n 1) s

-- What the program asks for next of this body, after these answers, the newest first.
abbrev pub asks_of : List Item → Program TreeScript
asks_of all s answers = run_within all (suc (length answers)) s (reverse answers)
