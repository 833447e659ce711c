use Rattle.oss_top.proofs.OrderLemmas.{in-every-order}
use Rattle.oss_top.proofs.laws.every_order_gives_the_reply.Goals as goal

pub returns : goal.returns
returns c = in-every-order c.args.text.now
