use Rattle.oss_lower_laws.proofs.ProgramLemmas.{bounds_are_enough}
use Rattle.oss_lower_laws.proofs.laws.bounds_are_enough.Goals as goal

pub returns : goal.returns
returns c = bounds_are_enough
