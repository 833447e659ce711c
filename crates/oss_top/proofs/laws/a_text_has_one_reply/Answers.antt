use Rattle.oss_top.proofs.ReplyLemmas.{replied}
use Rattle.oss_top.proofs.laws.a_text_has_one_reply.Goals as goal

pub returns : goal.returns
returns c = replied c.args.text.now
