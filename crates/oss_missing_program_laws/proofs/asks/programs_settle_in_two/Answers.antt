use Rattle.oss_missing_program_laws.proofs.CalmPrograms.{programs_settle_in_two}
use Rattle.oss_missing_program_laws.proofs.asks.programs_settle_in_two.Goals as goal

pub returns : goal.returns
returns c = programs_settle_in_two
