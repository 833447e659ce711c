use Rattle.oss_lower_laws.proofs.TextPlaces.{accepted_programs_have_one_outcome}
use Rattle.oss_lower_laws.proofs.laws.accepted_programs_have_one_outcome.Goals as goal

pub returns : goal.returns
returns c = accepted_programs_have_one_outcome
