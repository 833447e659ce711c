use Rattle.oss_missing_program_laws.proofs.ProgramCells.{programs_leave_clauses}
use Rattle.oss_missing_program_laws.proofs.cells.programs_leave_clauses.Goals as goal

pub returns : goal.returns
returns c = programs_leave_clauses
