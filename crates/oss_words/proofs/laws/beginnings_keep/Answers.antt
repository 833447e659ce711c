use Rattle.oss_words.proofs.RestLaw.{rule_opening}
use Rattle.oss_words.proofs.laws.beginnings_keep.Goals as goal

pub returns : goal.returns
returns c = rule_opening
