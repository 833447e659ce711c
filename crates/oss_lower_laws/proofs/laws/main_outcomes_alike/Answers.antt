use Rattle.oss_lower_laws.proofs.OutcomeLaws.{main_outcomes_alike}
use Rattle.oss_lower_laws.proofs.laws.main_outcomes_alike.Goals as goal

pub returns : goal.returns
returns c = main_outcomes_alike
