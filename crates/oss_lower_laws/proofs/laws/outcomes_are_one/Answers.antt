use Rattle.oss_lower_laws.proofs.OutcomeLaws.{outcomes_are_one}
use Rattle.oss_lower_laws.proofs.laws.outcomes_are_one.Goals as goal

pub returns : goal.returns
returns c = outcomes_are_one
