use Rattle.oss_missing_program_laws.proofs.ProgramCells.{codes_touch_their_cells}
use Rattle.oss_missing_program_laws.proofs.cells.codes_touch_their_cells.Goals as goal

pub returns : goal.returns
returns c = codes_touch_their_cells
