use Rattle.oss_lower_bounds.proofs.TaskEntries.{ways_stay_inside}
use Rattle.oss_lower_bounds.proofs.laws.ways_stay_inside.Goals as goal

pub returns : goal.returns
returns c = ways_stay_inside
