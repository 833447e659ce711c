use Rattle.oss_missing_waits.proofs.WalkLemmas.{all_found}
use Rattle.oss_missing_waits.proofs.walk.find_from.Goals as goal

pub returns-in-Ok : goal.returns-in-Ok
returns-in-Ok c = all_found c.args.code.now c.args.fuel c.args.layout.now c.args.tasks.now c.follow.new.following c.finish.result c.in-Ok.ensures c.finish.ensures
