use Rattle.oss_missing_program_laws.proofs.CalmPrograms.{programs_release_plainly}
use Rattle.oss_missing_program_laws.proofs.asks.programs_release_plainly.Goals as goal

pub returns : goal.returns
returns c = programs_release_plainly
