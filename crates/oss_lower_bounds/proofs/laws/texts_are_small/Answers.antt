use Rattle.oss_lower_bounds.proofs.TextPrograms.{texts_are_small}
use Rattle.oss_lower_bounds.proofs.laws.texts_are_small.Goals as goal

pub returns : goal.returns
returns c = texts_are_small
