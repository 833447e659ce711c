-- Two programs that ask alike: the tree's scripts name bodies by their numbers, and the code's by the instructions with which they begin.
-- Read against: `int main() { return 7; }` asks for a tick, and then for its end, on the same line; so does its code from place 0 on.
use Rattle.std.specs.Prelude.{◌≡◌, ◌↔◌, ◌<◌, ◌≤◌, ◌+◌, ◌^◌, ℕ, true, false, List, [], ◌∷◌, length, pos}
use Rattle.std.specs.Option.{ForSome}
use Rattle.oss_syntax.specs.declared.tree.program.GlobalDef.{GlobalDef}
use Rattle.oss_syntax.specs.declared.tree.program.Item.{Item}
use Rattle.oss_syntax.specs.declared.tree.program.Item.TheVariants as items
use Rattle.oss_syntax.specs.declared.tree.program.Program.{Program as Tree}
use Rattle.oss_grammar.specs.Layout.{cells_of}
use Rattle.oss_grammar.specs.Parsing.{IsProgramText}
use Rattle.oss_grammar.specs.ProgramRules.{program_rules}
use Rattle.oss_grammar.specs.TaskLoops.{program_written}
use Rattle.oss_model.specs.Agreement.{AreWords, Setting, main_start}
use Rattle.oss_model.specs.Bodies.{Ask, Asked, Order, Program, Start}
use Rattle.oss_model.specs.Bodies.Ask.{Await, Begin, Create, End, Fails, Fold, Print, Read, Release, Tick, Wait, WaitOn, Write}
use Rattle.oss_model.specs.Termination.{IsLively}
use Rattle.oss_meaning.specs.Expressions.{TaskBody, TreeScript}
use Rattle.oss_meaning.specs.Meaning.{asks_of, run_within}
use Rattle.oss_meaning.specs.Results.{IsOutcome, IsOutcomeOf, Outcome, first_cells, main_of}
use Rattle.oss_code.specs.Soundness.{IsSound}
use Rattle.oss_code.specs.declared.code.CodeParts.{CodeParts}
use Rattle.oss_machine.specs.Frames.{CodeScript}
use Rattle.oss_machine.specs.Machines.{asks}
use Rattle.oss_lower_laws.specs.Lowered.{IsLowered, place_of}

-- the script of a code, each body being at such a place
abbrev pub moved_script : (TaskBody → ℕ) → TreeScript → CodeScript
moved_script places s = record { entry = places s.body; copies = s.copies }

-- the same task, with the script of a code
abbrev pub moved_order : (TaskBody → ℕ) → Order TreeScript → Order CodeScript
moved_order places o = record {
  script = moved_script places o.script;
  clauses = o.clauses;
  when = o.when;
  last = o.last;
  wait = o.wait;
  priority = o.priority;
}

-- the same beginning of a body
abbrev pub moved_start : (TaskBody → ℕ) → Start TreeScript → Start CodeScript
moved_start places b = record { order = moved_order places b.order; context = b.context; path = b.path }

-- the same ask
abbrev pub moved_ask : (TaskBody → ℕ) → Ask TreeScript → Ask CodeScript
moved_ask places Begin = Begin
moved_ask places Tick = Tick
moved_ask places (Read cell) = Read cell
moved_ask places (Write cell v) = Write cell v
moved_ask places (Fold cell o v) = Fold cell o v
moved_ask places (Create o) = Create (moved_order places o)
moved_ask places Await = Await
moved_ask places Wait = Wait
moved_ask places (WaitOn named) = WaitOn named
moved_ask places (Release clauses) = Release clauses
moved_ask places (Print text) = Print text
moved_ask places End = End
moved_ask places (Fails kind) = Fails kind

-- the same ask on the same line
abbrev pub moved_asked : (TaskBody → ℕ) → Asked TreeScript → Asked CodeScript
moved_asked places a = record { ask = moved_ask places a.ask; line = a.line }

-- A code is one of a program: each body of the program has a place in it, that of `main` being the first instruction; the body at that place
-- asks as the program's does, after any answers; and the cells begin as the program's do.
pub record IsCodeOf (all : List Item) (code : CodeParts) : Type 0 where
  pub places : TaskBody → ℕ
  pub main_first : places TaskBody.main ≡ 0
  pub alike : (s : TreeScript) (answers : List ℕ) → moved_asked places (asks_of all s answers) ≡ asks code (moved_script places s) answers
  pub first : code.first ≡ first_cells all

-- The code that a program becomes is one of it.
abbrev pub CodesAskAlike : Type 0
CodesAskAlike = (all : List Item) (code : CodeParts) → IsLowered all code → IsCodeOf all code

-- The code of a program is sound.
abbrev pub CodesAreSound : Type 0
CodesAreSound = (all : List Item) (code : CodeParts) → IsLowered all code → IsSound code

-- A program is lowered to one code.
abbrev pub CodesAreOne : Type 0
CodesAreOne = (all : List Item) (a b : CodeParts) → IsLowered all a → IsLowered all b → a ≡ b

-- A program that has a code is lively: between two ticks a body of it asks for a bounded number of other things.
abbrev pub ProgramsAreLively : Type 0
ProgramsAreLively = (all : List Item) (code : CodeParts) → IsCodeOf all code → IsLively (asks_of all)

-- A program that has a code asks the same under each bound on turns and calls that its answers do not pass.
abbrev pub BoundsAreEnough : Type 0
BoundsAreEnough = (all : List Item) (code : CodeParts) → IsLowered all code → (s : TreeScript) (bound more : ℕ) (answers : List ℕ) → length answers ≤ bound → length answers ≤ more
    → moved_asked (place_of all) (run_within all bound s answers) ≡ moved_asked (place_of all) (run_within all more s answers)

-- The sequential run has one outcome and no other.
pub record OneOutcome {S : Type 0} (P : Program S) (main : Start S) (cells : List ℕ) : Type 0 where
  pub some : (o : Outcome) × IsOutcome P main cells o
  pub one : (a b : Outcome) → IsOutcome P main cells a → IsOutcome P main cells b → a ≡ b

-- The sequential run of a program has at most one outcome, whatever main and the cells are.
abbrev pub OutcomesAreOne : Type 0
OutcomesAreOne = (all : List Item) (main : Start TreeScript) (cells : List ℕ) (a b : Outcome) → IsOutcome (asks_of all) main cells a → IsOutcome (asks_of all) main cells b → a ≡ b

-- That of a program that has a code has one.
abbrev pub ProgramsHaveOneOutcome : Type 0
ProgramsHaveOneOutcome = (all : List Item) (code : CodeParts) → IsCodeOf all code → (main : Start TreeScript) (cells : List ℕ) → Setting main cells → OneOutcome (asks_of all) main cells

-- It gives what that of its code gives: the same answer, as many tasks, and as many entries.
abbrev pub OutcomesAlike : Type 0
OutcomesAlike = (all : List Item) (code : CodeParts) (of : IsCodeOf all code) (main : Start TreeScript) (cells : List ℕ) → Setting main cells → (o : Outcome)
    → IsOutcome (asks_of all) main cells o ↔ IsOutcome (asks code) (moved_start of.places main) cells o

-- what main of a code is to run: it begins at the first instruction, and no clause says anything of it
abbrev pub code_order : Order CodeScript
code_order = record { script = record { entry = 0; copies = [] }; clauses = []; when = true; last = false; wait = false; priority = pos 0 }

-- how main of a code starts, with this much fuel
abbrev pub code_start : CodeParts → ℕ → Start CodeScript
code_start code fuel = main_start code_order (length code.first) fuel

-- A program and its code give the same from the start, where the cells begin with numbers of 64 bits.
abbrev pub MainOutcomesAlike : Type 0
MainOutcomesAlike = (all : List Item) (code : CodeParts) → IsCodeOf all code → AreWords code.first → (fuel : ℕ) (o : Outcome)
    → IsOutcomeOf all fuel o ↔ IsOutcome (asks code) (code_start code fuel) code.first o

-- The global has a place from this cell on: it has a cell, and a row of it has one; with those before it there are at most 1,048,576 cells;
-- and it begins with a number of 64 bits.
-- Read against: with `long x, a[3];` the places are from the cells 0 and 1 on; `long m[3][0];` has none, nor has `b` of `long a[1048576], b;`.
pub record HasPlace (start : ℕ) (d : GlobalDef) : Type 0 where
  pub some : 0 < cells_of d.cells
  pub few : start + cells_of d.cells ≤ 1048576
  pub wide : ForSome d.columns (λ columns. 0 < columns)
  pub word : d.first < 2 ^ 64

-- each global among these items has its place, the first of them from this cell on
abbrev pub HavePlaces : ℕ → List Item → Type 0
HavePlaces start [] = Unit {0}
HavePlaces start (items.Global d ∷ rest) = HasPlace start d × HavePlaces (start + cells_of d.cells) rest
HavePlaces start (items.Function f ∷ rest) = HavePlaces start rest

-- The place can be told in numbers of 32 bits: no row has more cells than the global.
-- Read against: `long m[3][2];` has rows of 2 cells, and 6 cells; a tree could say rows of 4,294,967,296 cells of it, and no text does.
pub record IsTold (start : ℕ) (d : GlobalDef) : Type 0 where
  pub place : HasPlace start d
  pub narrow : ForSome d.columns (λ columns. columns ≤ cells_of d.cells)

-- those of all globals among these items can, the first of them from this cell on
abbrev pub AreTold : ℕ → List Item → Type 0
AreTold start [] = Unit {0}
AreTold start (items.Global d ∷ rest) = IsTold start d × AreTold (start + cells_of d.cells) rest
AreTold start (items.Function f ∷ rest) = AreTold start rest

-- So can those of the globals of a program as which a text is accepted, each task loop in it written out.
abbrev pub AcceptedPlacesAreTold : Type 0
AcceptedPlacesAreTold = (text : List ℕ) (p : Tree) → IsProgramText text p → program_rules p ≡ [] → AreTold 0 (program_written p).items

-- A program whose globals have their places has a code.
abbrev pub ProgramsHaveCodes : Type 0
ProgramsHaveCodes = (all : List Item) → HavePlaces 0 all → (code : CodeParts) × IsLowered all code

-- Its sequential run, with so much fuel for each task, has one outcome.
abbrev pub AProgramHasOneOutcome : Type 0
AProgramHasOneOutcome = (all : List Item) → HavePlaces 0 all → (fuel : ℕ) → OneOutcome (asks_of all) (main_of all fuel) (first_cells all)

-- So has that of a program as which a text is accepted, each task loop in it written out.
abbrev pub AcceptedProgramsHaveOneOutcome : Type 0
AcceptedProgramsHaveOneOutcome = (text : List ℕ) (p : Tree) → IsProgramText text p → program_rules p ≡ [] → (fuel : ℕ)
    → OneOutcome (asks_of (program_written p).items) (main_of (program_written p).items fuel) (first_cells (program_written p).items)
