use Rattle.oss_prior.proofs.ReadyLemmas.{has_taken}
use Rattle.oss_prior.proofs.ready.take_out.Goals as goal

pub returns-clause-left : goal.returns-clause-left
returns-clause-left c = has_taken c.args.one.now c.args.queue.now c.remove.new.self c.remove.ensures.updates.0
