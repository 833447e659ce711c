use Rattle.oss_missing_program_laws.proofs.CodeMissing.{codes_end_well_alike}
use Rattle.oss_missing_program_laws.proofs.exact.codes_end_well_alike.Goals as goal

pub returns : goal.returns
returns c = codes_end_well_alike
