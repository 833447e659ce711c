use Rattle.oss_lower_bounds.proofs.StandingLocals.{places_are_counted}
use Rattle.oss_lower_bounds.proofs.laws.places_are_counted.Goals as goal

pub returns : goal.returns
returns c = places_are_counted
