use Rattle.oss_lower_bounds.proofs.ShortPrograms.{places_are_short}
use Rattle.oss_lower_bounds.proofs.laws.places_are_short.Goals as goal

pub returns : goal.returns
returns c = places_are_short
