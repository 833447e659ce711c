use Rattle.oss_words.proofs.RuleLaw.{rule_join}
use Rattle.oss_words.proofs.laws.joins_keep.Goals as goal

pub returns : goal.returns
returns c = λ n draw net gave states infos views id j v x w y rule differ other at bt d. rule_join n net gave states infos draw views rule id j v x w y differ other at bt d
