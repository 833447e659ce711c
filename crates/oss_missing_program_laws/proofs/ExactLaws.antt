-- The laws of what is told of the program as which a text is accepted.
use Rattle.std.proofs.Common.{List}
use Rattle.oss_syntax.specs.declared.tree.program.Item.{Item}
use Rattle.oss_grammar.specs.TaskLoops.{program_written}
use Rattle.oss_meaning.specs.Expressions.{TreeScript}
use Rattle.oss_code.specs.declared.code.CodeParts.{CodeParts}
use Rattle.oss_lower_laws.specs.Lowered.{IsLowered}
use Rattle.oss_lower_laws.proofs.ProgramLemmas.{codes_ask_alike}
use Rattle.oss_missing_laws.proofs.AnswerLemmas.{answers_are_one}
use Rattle.oss_missing_laws.proofs.ExactTheorem.{missing_exactly}
use Rattle.oss_missing_laws.proofs.NumberLemmas.{walks_number_alike}
use Rattle.oss_missing_laws.proofs.ToldTheorem.{nothing_is_missing}
use Rattle.oss_missing_program_laws.specs.Exact.{NothingIsToldExactly, ToldFaultsAreOwn}
use Rattle.oss_missing_program_laws.proofs.CalmPrograms.{programs_release_plainly, programs_settle_in_two}
use Rattle.oss_missing_program_laws.proofs.ParsedReleases.{texts_release_by_dependencies}
use Rattle.oss_missing_program_laws.proofs.ProgramCells.{codes_name_their_cells, codes_touch_their_cells, programs_leave_clauses}
use Rattle.oss_missing_program_laws.proofs.ProgramsExact.{IsTame, programs_exactly, programs_fault}

tame_of : (all : List Item) (code : CodeParts) → IsLowered all code → IsTame all code
tame_of all code low = record {
  of = codes_ask_alike all code low;
  two = programs_settle_in_two all;
  named = codes_name_their_cells all code low;
  touches = codes_touch_their_cells all code low;
}

pub nothing_is_told_exactly : NothingIsToldExactly
nothing_is_told_exactly text p read code low fuel m missing =
    programs_exactly (program_written p).items code low (tame_of (program_written p).items code low) (walks_number_alike TreeScript) fuel m missing (missing_exactly TreeScript) (nothing_is_missing TreeScript)
    (programs_release_plainly (program_written p).items (texts_release_by_dependencies text p read)) (programs_leave_clauses (program_written p).items code (codes_ask_alike (program_written p).items code low))

pub told_faults_are_own : ToldFaultsAreOwn
told_faults_are_own text p read code low fuel m missing told o outcome =
    programs_fault (program_written p).items code low (tame_of (program_written p).items code low) (walks_number_alike TreeScript) fuel m missing (answers_are_one TreeScript) told o outcome
