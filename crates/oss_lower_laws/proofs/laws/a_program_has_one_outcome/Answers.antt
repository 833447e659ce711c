use Rattle.oss_lower_laws.proofs.OutcomeLaws.{a_program_has_one_outcome}
use Rattle.oss_lower_laws.proofs.laws.a_program_has_one_outcome.Goals as goal

pub returns : goal.returns
returns c = a_program_has_one_outcome
