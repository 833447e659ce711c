use Rattle.oss_lower_laws.proofs.OutcomeLaws.{programs_have_codes}
use Rattle.oss_lower_laws.proofs.laws.programs_have_codes.Goals as goal

pub returns : goal.returns
returns c = programs_have_codes
