use Rattle.oss_labels.proofs.LabelLemmas.{codes_stand_at_places}
use Rattle.oss_labels.proofs.laws.codes_stand_at_places.Goals as goal

pub returns : goal.returns
returns c = codes_stand_at_places
