use Rattle.oss_prior.proofs.ReadyLemmas.{has_added}
use Rattle.oss_prior.proofs.ready.add.Goals as goal

pub returns : goal.returns
returns c = has_added c.args.one c.args.queue.now c.insert.new.self c.in_ok-insert.ensures.updates.0
