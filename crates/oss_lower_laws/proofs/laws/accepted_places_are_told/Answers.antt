use Rattle.oss_lower_laws.proofs.TextPlaces.{accepted_places_are_told}
use Rattle.oss_lower_laws.proofs.laws.accepted_places_are_told.Goals as goal

pub returns : goal.returns
returns c = accepted_places_are_told
