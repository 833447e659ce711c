use Rattle.oss_missing_program_laws.proofs.ProgramCells.{programs_name_their_cells}
use Rattle.oss_missing_program_laws.proofs.cells.programs_name_their_cells.Goals as goal

pub returns : goal.returns
returns c = programs_name_their_cells
