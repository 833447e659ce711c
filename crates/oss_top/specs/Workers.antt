-- What a run by workers tells behind its output: which worker began each task, and in which order one worker began them.
-- Read against: main creates 0.0 with out(x) priority(1), 0.1 with out(y) priority(5) and 0.2 with in(x). One worker begins main first, then 0.1, then 0.0, and 0.2 after it. The order has the lines
-- `order 0`, `order 0.1`, `order 0.0` and `order 0.2`. Who began them has `who 0 0`, `who 0.0 0`, `who 0.1 0` and `who 0.2 0`, in point order, whatever the order was.
use Rattle.std.specs.Prelude.{◌≡◌, ◌<◌, ℕ, Bool, true, false, List, [], ◌∷◌, ◌++◌}
use Rattle.std.specs.Prelude.{IsPermutation, IsSorted}
use Rattle.std.specs.Cmp.Lexicographic.{slice_cmp}
use Rattle.std.specs.Ordering.{nat_cmp}
use Rattle.oss_syntax.specs.declared.tree.program.Program.{Program}
use Rattle.oss_model.specs.Order.{IsIn}
use Rattle.oss_model.specs.declared.answer.Answer.{Answer}
use Rattle.oss_meaning.specs.Meaning.{asks_of}
use Rattle.oss_meaning.specs.Results.{IsOutcomeOf, Outcome, first_cells, main_of}
use Rattle.oss_prior_laws.specs.Turns.{IsOrder}
use Rattle.oss_report.specs.Runs.{order_text, who_line, who_text}
use Rattle.oss_command.specs.declared.options.Options.{Options}
use Rattle.oss_top.specs.Runs.{IsDone}

-- The points of the tasks of a program, each with so much fuel, in the order in which one worker begins them.
abbrev pub IsOrderOf : Program → ℕ → List (List ℕ) → Type 0
IsOrderOf program fuel order = IsOrder (asks_of program.items) (main_of program.items fuel) (first_cells program.items) order

-- A task, and the worker that began it.
pub record Beginning : Type 0 where
  pub point : List ℕ
  pub worker : ℕ

-- the points of such tasks
abbrev pub points_in : List Beginning → List (List ℕ)
points_in [] = []
points_in (b ∷ more) = b.point ∷ points_in more

-- the lines of such tasks
abbrev pub lines_in : List Beginning → List ℕ
lines_in [] = []
lines_in (b ∷ more) = who_line b.worker b.point ++ lines_in more

-- The points stand in point order, each before those behind it.
abbrev pub AreSortedPoints : List (List ℕ) → Type 0
AreSortedPoints points = IsSorted (slice_cmp nat_cmp) points

-- The text tells which worker began each task of the program, in point order: for some workers, below this count.
pub record IsWhoText (program : Program) (fuel workers : ℕ) (text : List ℕ) : Type 0 where
  pub order : List (List ℕ)
  pub is_order : IsOrderOf program fuel order
  pub tasks : List Beginning
  pub each : IsPermutation order (points_in tasks)
  pub sorted : AreSortedPoints (points_in tasks)
  pub below : (b : Beginning) → IsIn b tasks → b.worker < workers
  pub text_is : text ≡ lines_in tasks

-- The text tells in which order one worker begins the tasks of the program.
pub record IsOrderText (program : Program) (fuel : ℕ) (text : List ℕ) : Type 0 where
  pub order : List (List ℕ)
  pub is_order : IsOrderOf program fuel order
  pub text_is : text ≡ order_text order

-- Such a text, if it is asked for, and nothing otherwise.
abbrev pub IsAsked : Bool → (List ℕ → Type 0) → List ℕ → Type 0
IsAsked false IsSuch text = text ≡ []
IsAsked true IsSuch text = IsSuch text

-- The lines behind the output of a run with these options: who began the tasks, and then their order, each if it is asked for.
pub record AreLinesOf (options : Options) (program : Program) (lines : List ℕ) : Type 0 where
  pub who : List ℕ
  pub order : List ℕ
  pub who_is : IsAsked options.who (IsWhoText program options.fuel options.workers) who
  pub order_is : IsAsked options.order (IsOrderText program options.fuel) order
  pub lines_are : lines ≡ who ++ order

-- What a run by one worker gives of a program: the answer of its sequential run, the order, and as many tasks, if the program comes to its end.
pub record IsSingleOf (program : Program) (fuel : ℕ) (answer : Answer) (order : List (List ℕ)) (tasks : ℕ) : Type 0 where
  pub outcome : Outcome
  pub is_outcome : IsOutcomeOf program.items fuel outcome
  pub answer_is : answer ≡ outcome.answer
  pub order_is : IsOrderOf program fuel order
  pub tasks_are : IsDone outcome.answer → tasks ≡ outcome.tasks

-- The text tells that the worker 0 began each of the tasks with these points, in point order.
pub record IsToldByOne (points : List (List ℕ)) (text : List ℕ) : Type 0 where
  pub sorted : List (List ℕ)
  pub each : IsPermutation points sorted
  pub in_order : AreSortedPoints sorted
  pub text_is : text ≡ who_text 0 sorted

-- The lines for these options of a run by one worker, whose tasks began in this order.
pub record AreToldOf (options : Options) (order : List (List ℕ)) (lines : List ℕ) : Type 0 where
  pub who : List ℕ
  pub told : List ℕ
  pub who_is : IsAsked options.who (IsToldByOne order) who
  pub order_is : IsAsked options.order (λ text. text ≡ order_text order) told
  pub lines_are : lines ≡ who ++ told
