use Rattle.oss_lacks.proofs.WalkLemmas.{beside_first}
use Rattle.oss_lacks.proofs.walk.find_lacks.Goals as goal

pub lacks_from-requires : goal.lacks_from-requires
lacks_from-requires c = beside_first c.args.code.now c.args.fuel c.in-Ok.run' c.in_ok-following.following c.in-Ok.ensures c.in_ok-following.ensures
