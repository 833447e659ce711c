use Rattle.oss_crew.proofs.Numbers.{one_more_below}
use Rattle.oss_crew.proofs.work.announce.Goals as goal

pub push_as-requires-clause-queue : goal.push_as-requires-clause-queue
push_as-requires-clause-queue g c = c.loop.invariant

pub push_as-requires-clause-rule : goal.push_as-requires-clause-rule
push_as-requires-clause-rule g c = ((λ items views room all at. (tt, one_more_below g.N.Limit.limit c.args.number items all c.requires.number, c.requires.number)), λ items views all at. tt)
