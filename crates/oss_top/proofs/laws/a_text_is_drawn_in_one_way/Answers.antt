use Rattle.oss_top.proofs.ReplyLemmas.{drawn_once}
use Rattle.oss_top.proofs.laws.a_text_is_drawn_in_one_way.Goals as goal

pub returns : goal.returns
returns c = drawn_once c.args.text.now
