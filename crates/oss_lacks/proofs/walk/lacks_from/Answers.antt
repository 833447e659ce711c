use Rattle.oss_lacks.proofs.KeptLemmas.{if_ok}
use Rattle.oss_lacks.proofs.WalkLemmas.{all_lacks}
use Rattle.oss_lacks.proofs.walk.lacks_from.Goals as goal

pub returns-in-Ok : goal.returns-in-Ok
returns-in-Ok c = if_ok c.finish.result (λ l h. all_lacks c.args.code.now c.args.fuel c.in-Ok.fault c.follow.new.following l c.in-Ok.ensures h) c.finish.ensures
