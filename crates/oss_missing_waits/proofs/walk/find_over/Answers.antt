use Rattle.oss_missing_waits.proofs.WalkLemmas.{beside_first}
use Rattle.oss_missing_waits.proofs.walk.find_over.Goals as goal

pub find_from-requires : goal.find_from-requires
find_from-requires c = beside_first c.args.code.now c.args.fuel c.args.layout.now c.args.tasks.now c.in-Ok.run' c.new-following.result c.in-Ok.ensures c.new-following.ensures
