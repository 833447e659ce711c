-- Nothing is told of a program exactly where its own run ends without a fault of annotations: for each program that has a code.
use Rattle.std.proofs.Common.{◌≡◌, ℕ, ◌≤◌, List, length, sym, subst, arith}
use Rattle.std.specs.Prelude.{◌↔◌}
use Rattle.oss_syntax.specs.declared.tree.program.Item.{Item}
use Rattle.oss_model.specs.Agreement.{main_start}
use Rattle.oss_model.specs.Bodies.{Start}
use Rattle.oss_meaning.specs.Expressions.{TreeScript}
use Rattle.oss_meaning.specs.Meaning.{asks_of}
use Rattle.oss_meaning.specs.Results.{IsOutcome, IsOutcomeOf, Outcome, first_cells, main_of, main_order}
use Rattle.oss_code.specs.declared.code.CodeParts.{CodeParts}
use Rattle.oss_machine.specs.Machines.{asks}
use Rattle.oss_lower_laws.specs.Lowered.{IsLowered}
use Rattle.oss_lower_laws.specs.Programs.{IsCodeOf}
use Rattle.oss_freed.specs.Freed.{LeavesClausesToTheJudge, TouchesItsCells}
use Rattle.oss_missing_lines.specs.declared.missing.Missing.{Missing}
use Rattle.oss_missing_laws.specs.Missing.{AnswersAreOne, EndsWell, MissingExactly, NothingIsMissing}
use Rattle.oss_missing_laws.specs.Numbers.{WalksNumberAlike}
use Rattle.oss_missing_laws.specs.Programs.{NamesItsCells, ReleasesPlainly, SettlesInTwo}
use Rattle.oss_missing.specs.Missing.{IsMissing}
use Rattle.oss_missing_program_laws.specs.Exact.{IsFaultOf, IsToldNothing}
use Rattle.oss_missing_program_laws.proofs.CodeMissing.{cells_from_is, lowered_few, main_is, missing_own, names_own, touches_own}
use Rattle.oss_missing_program_laws.proofs.EmptyPieces.{cells_from}
use Rattle.oss_missing_program_laws.proofs.ExactTheorem.{IsMissingOf, told_exactly, told_fault}

-- All that the walks ask of the program.
pub record IsTame (all : List Item) (code : CodeParts) : Type 0 where
  pub of : IsCodeOf all code
  pub two : SettlesInTwo (asks_of all)
  pub named : NamesItsCells (length code.first) (asks code)
  pub touches : TouchesItsCells (length code.first) (asks code)

module _ (all : List Item) (code : CodeParts) (low : IsLowered all code) (tame : IsTame all code) (numbers : WalksNumberAlike TreeScript) (fuel : ℕ) (m : Missing) (missing : IsMissing code fuel all m) where
  own : IsMissingOf (asks_of all) (main_start main_order (length (first_cells all)) fuel) (first_cells all) all m
  own = missing_own all code tame.of fuel m missing

  bound : length (first_cells all) ≤ cells_from all
  bound = let e : length (first_cells all) ≡ cells_from all = cells_from_is all in omega (arith, e)

  pub programs_exactly : MissingExactly TreeScript → NothingIsMissing TreeScript → ReleasesPlainly (asks_of all) → LeavesClausesToTheJudge (asks_of all) → IsToldNothing m ↔ EndsWell (asks_of all) (main_of all fuel) (first_cells all)
  programs_exactly exact shows plain leaves =
      subst (λ (main : Start TreeScript). IsToldNothing m ↔ EndsWell (asks_of all) main (first_cells all)) (main_is all code tame.of fuel)
      (told_exactly (asks_of all) main_order (first_cells all) fuel all m own (lowered_few all code low) bound tame.two (names_own all code tame.of tame.named) (touches_own all code tame.of tame.touches) numbers exact shows plain leaves)

  pub programs_fault : AnswersAreOne TreeScript → IsToldNothing m → (o : Outcome) → IsOutcomeOf all fuel o → IsFaultOf m.fault o.answer
  programs_fault one told o outcome =
      told_fault (asks_of all) main_order (first_cells all) fuel all m own (lowered_few all code low) bound tame.two (names_own all code tame.of tame.named) (touches_own all code tame.of tame.touches) numbers one told o
      (subst (λ (main : Start TreeScript). IsOutcome (asks_of all) main (first_cells all) o) (sym (main_is all code tame.of fuel)) outcome)
