use Rattle.oss_top.proofs.ReplyLemmas.{replied_once}
use Rattle.oss_top.proofs.laws.a_replay_has_one_reply.Goals as goal

pub returns : goal.returns
returns c = replied_once c.args.text.now c.args.schedule.now
