use Rattle.oss_missing_program_laws.proofs.ProgramCells.{codes_name_their_cells}
use Rattle.oss_missing_program_laws.proofs.cells.codes_name_their_cells.Goals as goal

pub returns : goal.returns
returns c = codes_name_their_cells
