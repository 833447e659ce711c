use Rattle.std.specs.Prelude.{vec_capacity}
use Rattle.oss_regions.proofs.KeptLemmas.{right_new}
use Rattle.oss_regions.proofs.regions.Regions.new.Goals as goal

pub invariant_of-result : goal.invariant_of-result
invariant_of-result c = right_new c.new.result.items (vec_capacity c.new.result) c.new-2.result c.new.ensures.items c.new-2.ensures.here
