-- What it means that a state of the machine agrees with the sequential run.
use Rattle.std.specs.Prelude.{◌≡◌, ℕ, ◌^◌, ◌<◌, List, [], length, slice_index, false, Bool}
use Rattle.oss_syntax.specs.declared.access.Mode.{Mode}
use Rattle.oss_syntax.specs.declared.access.Mode.TheVariants.{Write}
use Rattle.oss_model.specs.Context.{main_context, right_of}
use Rattle.oss_model.specs.Rights.{Holds}
use Rattle.oss_model.specs.Bodies.{Order, Program, Start}
use Rattle.oss_model.specs.Machine.{Task, State, At}
use Rattle.oss_model.specs.History.{IsMade, IsStarted, IsComparable}
use Rattle.oss_model.specs.Memory.{IsValue}
use Rattle.oss_model.specs.Sequence.{Running, Sequential}

-- Main is not final, has created nothing and has the empty path.
pub record MainStarts {S : Type 0} (main : Start S) : Type 0 where
  pub final : main.context.final ≡ false
  pub created : main.context.created ≡ 0
  pub path : main.path ≡ []

-- Main has rights only to cells that are there.
abbrev pub InMemory : {S : Type 0} → Start S → List ℕ → Type 0
InMemory main cells = (c : ℕ) (m : Mode) (strong : _) → right_of main.context c ≡ Holds m strong → c < length cells

-- Each cell has a number of 64 bits.
abbrev pub AreWords : List ℕ → Type 0
AreWords cells = (c : ℕ) → slice_index cells c < 2 ^ 64

-- How main starts, with as many cells and as much fuel.
abbrev pub main_start : {S : Type 0} → Order S → ℕ → ℕ → Start S
main_start order cells fuel = record { order = order; context = main_context cells fuel; path = [] }

-- Main and the memory at the beginning. Every program with its memory is such a setting.
pub record Setting {S : Type 0} (main : Start S) (cells : List ℕ) : Type 0 where
  pub starts : MainStarts main
  pub memory : InMemory main cells
  pub words : AreWords cells
  -- main's rights are to write, so none is that of a reduction
  pub writes : (c : ℕ) (m : Mode) (strong : Bool) → right_of main.context c ≡ Holds m strong → m ≡ Write

-- The tasks that two states both have are comparable: in neither has one done what the other would not do.
abbrev pub Compatible : {S : Type 0} → State S → State S → Type 0
Compatible x s = (p : List ℕ) (t u : Task _) → At x p t → At s p u → IsComparable t.body u.body

-- A state agrees with a stage of the sequential run: its tasks were made and started as they should, those that
-- the run has too have done the same acts with the same answers, as far as both have come, and each cell has
-- the value of its done changes in point order.
pub record Agrees {S : Type 0} (P : Program S) (main : Start S) (cells : List ℕ) (z : Running S) (s : State S) : Type 0 where
  pub made : IsMade P main s
  pub started : IsStarted P s
  pub same : Compatible z.state s
  pub size : length s.cells ≡ length cells
  pub words : AreWords s.cells
  pub value : (c : ℕ) → c < length cells → IsValue P s cells c

-- A state agrees with every stage of the sequential run.
abbrev pub AgreesWithRun : {S : Type 0} → Program S → Start S → List ℕ → State S → Type 0
AgreesWithRun P main cells s = (z : Running _) → Sequential P main cells z → Agrees P main cells z s
