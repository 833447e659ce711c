use Rattle.oss_lower_laws.proofs.MovedRuns.{outcomes_alike}
use Rattle.oss_lower_laws.proofs.laws.outcomes_alike.Goals as goal

pub returns : goal.returns
returns c = outcomes_alike
