-- The end of a program's run, with the explanation of its fault, is that of its code's run: a code asks as its program does, and the orders of its tasks differ in what runs alone. And there is one.
-- In the program the body of a task is named by its number, and in the code by the instruction with which it begins; both are told by the spot where it stands in the code.
-- Read against: `task out(x) x = 5; printf x` in main, without a wait, has the fault Lent at the print, with child 0 as the one that holds x; so has each code of it, and no other explanation is one
-- of this fault. A program that comes to its end has no explanation. Where main ends with `x = 1 << x` and 64 in x, a shift by 64 failed, and nothing else, in each code to which the program is lowered.
use Rattle.std.specs.Prelude.{◌≡◌, ◌↔◌, ℕ, List, Option}
use Rattle.oss_syntax.specs.declared.tree.program.Item.{Item}
use Rattle.oss_model.specs.Agreement.{AreWords, MainStarts}
use Rattle.oss_model.specs.Bodies.{Program, Start}
use Rattle.oss_meaning.specs.Expressions.{TreeScript}
use Rattle.oss_meaning.specs.Meaning.{asks_of}
use Rattle.oss_meaning.specs.Results.{first_cells, main_of}
use Rattle.oss_code.specs.declared.code.CodeParts.{CodeParts}
use Rattle.oss_lower_laws.specs.Lowered.{IsLowered}
use Rattle.oss_lower_laws.specs.Programs.{IsCodeOf}
use Rattle.oss_machine.specs.declared.failure.Failure.{Failure}
use Rattle.oss_explain.specs.declared.ending.Ending.{Ending}
use Rattle.oss_explain.specs.Endings.{IsEnding, IsEndingOf, IsFailureOf}

-- How the run of a program ends, with the explanation of its fault, so does that of its code, and the other way round, where bodies stand at their places and the cells begin with numbers of 64 bits.
abbrev pub EndingsAlike : Type 0
EndingsAlike = (all : List Item) (code : CodeParts) (of : IsCodeOf all code) → AreWords code.first → (fuel : ℕ) (e : Ending)
    → IsEnding (asks_of all) (λ (s : TreeScript). of.places s.body) (main_of all fuel) (first_cells all) all e ↔ IsEndingOf code fuel all e

-- The run of a program has at most one end, and its fault one explanation, wherever bodies stand, and whatever the cells and the globals are.
abbrev pub EndingsAreOne : Type 0 → Type 0
EndingsAreOne S = (P : Program S) (spot : S → ℕ) (main : Start S) → MainStarts main → (first : List ℕ) (all : List Item) (a b : Ending) → IsEnding P spot main first all a → IsEnding P spot main first all b → a ≡ b

-- In the run of a program one thing failed, whatever code it was lowered to.
abbrev pub FailuresAreOne : Type 0
FailuresAreOne = (all : List Item) (a b : CodeParts) → IsLowered all a → IsLowered all b → (fuel : ℕ) (f g : Option Failure) → IsFailureOf a fuel f → IsFailureOf b fuel g → f ≡ g
