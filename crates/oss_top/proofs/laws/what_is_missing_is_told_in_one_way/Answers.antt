use Rattle.oss_top.proofs.ReplyLemmas.{missed_once}
use Rattle.oss_top.proofs.laws.what_is_missing_is_told_in_one_way.Goals as goal

pub returns : goal.returns
returns c = missed_once c.args.text.now
