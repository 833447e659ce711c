-- What the words and jobs of a field that was taken apart tell of the state for which they stand.
-- Read against: a field of 2 cells and 16 entries was taken apart. Main has created the task 7 with the cells 0 and 1, which has created the task 10 with no
-- cell, and then the task 12. The numbers are 0, 7, 10 and 12, since the counts of 7, 10 and 12 alone were filled; the slots 0, 7, 10 and 12 have the jobs of
-- main, of 0 ∷ [], of 0 ∷ 0 ∷ [] and of 1 ∷ []. The task 7 has given up cell 1 if the state word of entry 9 says so.
use Rattle.std.specs.Prelude.{◌≡◌, ◌≢◌, ◌⊎◌, ◌<◌, ◌↔◌, ℕ, Bool, true, List, [], length, map, slice_get, slice_index, Option, Some, box_value}
use Rattle.std.specs.Global.{Box}
use mathlib.Core.Option as maybe
use lib.ListN.{get_elem?}
use Rattle.oss_body.specs.Mains.{code_main}
use Rattle.oss_close_laws.specs.Printed.{printed_in}
use Rattle.oss_code.specs.declared.code.CodeParts.{CodeParts}
use Rattle.oss_core.specs.Printing.{ArePrints}
use Rattle.oss_field.specs.Layout.{cell_word, count_word_of, state_word_of}
use Rattle.oss_field.specs.Spent.{IsApart}
use Rattle.oss_field.specs.Table.{Slot}
use Rattle.oss_jobs.specs.declared.job.Job.{Job}
use Rattle.oss_jobs.specs.Jobs.{IsJob}
use Rattle.oss_listed_laws.specs.Listed.{AreListed}
use Rattle.oss_machine.specs.Frames.{CodeScript}
use Rattle.oss_machine.specs.Machines.{asks}
use Rattle.oss_model.specs.Agreement.{Setting}
use Rattle.oss_model.specs.Bodies.{Body}
use Rattle.oss_model.specs.Context.{right_of}
use Rattle.oss_model.specs.Machine.{Task, State, At}
use Rattle.oss_model.specs.Memory.{Event}
use Rattle.oss_model.specs.Moves.{Reached}
use Rattle.oss_model.specs.Order.{IsIn}
use Rattle.oss_model.specs.Rights.{Holds}
use Rattle.oss_roles.specs.Numbers.{entry_number}
use Rattle.oss_roles.specs.Roles.{Site}
use Rattle.oss_syntax.specs.declared.access.Mode.{Mode}
use Rattle.oss_tree.specs.Runs.{print_of}
use Rattle.oss_words.specs.Bits.{state_at}

-- The count of this number was filled.
abbrev pub IsFilled : CodeParts → List ℕ → ℕ → Type 0
IsFilled code ws t = slice_index ws (count_word_of (length code.first) t) ≢ 18446744073709551615

-- The word of this entry says that it is given up.
abbrev pub is_given : CodeParts → List ℕ → ℕ → Bool
is_given code ws e = (state_at (slice_index ws (state_word_of (length code.first) e))).given

-- The slot of the number t has the job of the task with this body: it has all that the body has printed.
pub record HasJob (code : CodeParts) (slots : List Slot) (t : ℕ) (b : Body CodeScript) : Type 0 where
  pub job : Box Job
  pub last : Site → Option ℕ
  pub lies : get_elem? slots t ≡ maybe.some (Some job)
  pub is : IsJob code [] (box_value job) t b last

-- The words and slots of n entries tell the state: the tasks with these numbers, which rise, have these bodies.
pub record Tells (code : CodeParts) (fuel n : ℕ) (ws : List ℕ) (slots : List Slot) (s : State CodeScript) (numbers : List ℕ) (bodies : List (Body CodeScript)) : Type 0 where
  -- it is one of a run, and its memory lies in the words of the cells
  pub setting : Setting (code_main code fuel) code.first
  pub reached : Reached (asks code) (code_main code fuel) code.first s
  pub sized : length s.cells ≡ length code.first
  pub cells : (c : ℕ) → c < length code.first → slice_index ws (cell_word c) ≡ slice_index s.cells c
  -- the numbers are 0 and those whose counts were filled
  pub size : length numbers ≡ length bodies
  pub rising : (v w a b : ℕ) → slice_get numbers v ≡ Some a → slice_get numbers w ≡ Some b → v < w → a < b
  pub inside : (v t : ℕ) → slice_get numbers v ≡ Some t → t < n
  pub filled : (v t : ℕ) → slice_get numbers v ≡ Some t → (t ≡ 0) ⊎ IsFilled code ws t
  pub all : (t : ℕ) → t < n → (t ≡ 0) ⊎ IsFilled code ws t → (v : ℕ) × (slice_get numbers v ≡ Some t)
  -- their slots have the jobs of all tasks of the state, creators before what they have created
  pub jobs : (v t : ℕ) (b : Body CodeScript) → slice_get numbers v ≡ Some t → slice_get bodies v ≡ Some b → HasJob code slots t b
  pub listed : AreListed s bodies
  -- the words of entries tell which cells were given up; the number of such an entry is one of the table
  pub given : (v t c : ℕ) (b : Body CodeScript) (u : Task CodeScript) (mode : Mode) (strong : Bool)
      → slice_get numbers v ≡ Some t → slice_get bodies v ≡ Some b → t ≢ 0 → At s b.start.path u → right_of b.start.context c ≡ Holds mode strong
      → (entry_number t (right_of b.start.context) c < n) × ((is_given code ws (entry_number t (right_of b.start.context) c) ≡ true) ↔ IsIn c u.given)
  -- what the jobs have printed, in the order of the numbers, is what a core may keep as the prints of the state
  pub done : List (Event CodeScript)
  pub are_prints : ArePrints (asks code) s done
  pub printed : printed_in (asks code) bodies ≡ map (print_of (asks code)) done

-- The words and slots of a field that was taken apart tell a state.
abbrev pub FieldsApartTell : Type 0
FieldsApartTell = (code : CodeParts) (fuel n : ℕ) (ws : List ℕ) (slots : List Slot) → IsApart code fuel n ws slots
    → (s : State CodeScript) × (numbers : List ℕ) × (bodies : List (Body CodeScript)) × Tells code fuel n ws slots s numbers bodies
