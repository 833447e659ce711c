use Rattle.oss_top.proofs.ReplyLemmas.{explained_once}
use Rattle.oss_top.proofs.laws.a_text_is_explained_in_one_way.Goals as goal

pub returns : goal.returns
returns c = explained_once c.args.text.now
