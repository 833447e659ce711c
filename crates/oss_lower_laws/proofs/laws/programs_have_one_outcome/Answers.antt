use Rattle.oss_lower_laws.proofs.OutcomeLaws.{programs_have_one_outcome}
use Rattle.oss_lower_laws.proofs.laws.programs_have_one_outcome.Goals as goal

pub returns : goal.returns
returns c = programs_have_one_outcome
