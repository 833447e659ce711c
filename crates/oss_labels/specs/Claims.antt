-- What is promised of where bodies begin, and of labels.
-- Read against: the code of `int main() { #pragma oss task label(a) ; #pragma oss task ; }` begins with the bodies of the statements 0 and 1 at two different places, at neither of which `main` begins;
-- the label at the first of these is `a`, and there is none at the second.
use Rattle.std.specs.Prelude.{◌≡◌, ◌<◌, List, length}
use Rattle.oss_syntax.specs.declared.tree.program.Item.{Item}
use Rattle.oss_code.specs.declared.code.CodeParts.{CodeParts}
use Rattle.oss_meaning.specs.Expressions.{TaskBody}
use Rattle.oss_meaning.specs.Meaning.{bodies_in}
use Rattle.oss_meaning.specs.Names.{functions_of}
use Rattle.oss_lower_laws.specs.Lowered.{IsLowered, place_of}
use Rattle.oss_lower_laws.specs.Programs.{IsCodeOf}
use Rattle.oss_labels.specs.declared.labels.Labelled.{Labelled}
use Rattle.oss_labels.specs.Labels.{AreLabelsOf, label_of}
use Rattle.oss_labels.specs.Lists.{label_at}

-- The program has such a body: `main`, a function with this number, or so many task statements and more.
abbrev pub IsBody : List Item → TaskBody → Type 0
IsBody all TaskBody.main = Unit {0}
IsBody all (TaskBody.function number) = number < length (functions_of all)
IsBody all (TaskBody.statement number) = number < length (bodies_in all)

-- Two bodies of a program that begin at one place are one.
abbrev pub BodiesBeginApart : Type 0
BodiesBeginApart = (all : List Item) (a b : TaskBody) → IsBody all a → IsBody all b → place_of all a ≡ place_of all b → a ≡ b

-- The code that a program becomes is one of it, and each body stands in it at the place that lowering gives it.
pub record StandsAtPlaces (all : List Item) (code : CodeParts) : Type 0 where
  pub of : IsCodeOf all code
  pub places_are : of.places ≡ place_of all

abbrev pub CodesStandAtPlaces : Type 0
CodesStandAtPlaces = (all : List Item) (code : CodeParts) → IsLowered all code → StandsAtPlaces all code

-- In the labels of a program there is at the place of each body its label, and none where it has none.
abbrev pub LabelsAreTold : Type 0
LabelsAreTold = (all : List Item) (ls : List Labelled) → AreLabelsOf all ls → (body : TaskBody) → label_at ls (place_of all body) ≡ label_of all body
