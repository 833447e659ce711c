use Rattle.oss_lower_bounds.proofs.ShortPrograms.{codes_are_short}
use Rattle.oss_lower_bounds.proofs.laws.codes_are_short.Goals as goal

pub returns : goal.returns
returns c = codes_are_short
